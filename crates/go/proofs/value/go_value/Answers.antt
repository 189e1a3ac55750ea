use Rattle.lists.proofs.Prelude.{refl, sym, ◌∙◌}
use Rattle.go.specs.Value.{value_by}
use Rattle.go.proofs.Choosing.{value-unknown, value-shaped, by-alone}
use Rattle.go.proofs.value.go_value.Goals as goal

pub returns-then-not-is_go : goal.returns-then-not-is_go
returns-then-not-is_go c = value-unknown c.args.rule _ _ (sym c.is_go.ensures ∙ c.if-not-is_go.true) c.unmarked_value.ensures

pub returns-in-ManyPoints : goal.returns-in-ManyPoints
unfolding value_by
returns-in-ManyPoints c =
    value-shaped c.args.rule _ _ (sym c.is_go.ensures ∙ c.if-not-is_go.false) c.shape_of.ensures c.in-ManyPoints.is c.read_points.ensures

pub returns-in_default : goal.returns-in_default
returns-in_default c = value-shaped c.args.rule _ _ (sym c.is_go.ensures ∙ c.if-not-is_go.false) c.shape_of.ensures refl
    (c.unmarked_value-in_default.ensures ∙ by-alone _ _ _ c.in_default.not-ManyPoints c.value_by.ensures)
