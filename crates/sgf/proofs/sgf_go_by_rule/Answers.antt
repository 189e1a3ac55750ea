use Rattle.lists.proofs.Prelude.{ap, ◌∙◌}
use Rattle.c_answers.specs.Structs.{go_in_c}
use Rattle.sgf.proofs.Shaped.{set-shaped, alone-shaped}
use Rattle.sgf.proofs.sgf_go_by_rule.Goals as goal

pub returns-in-ManyPoints : goal.returns-in-ManyPoints
returns-in-ManyPoints c = c.go_in_c.ensures
    ∙ ap (go_in_c 0) (set-shaped c.args.rule _ _ c.shape_in-shape.ensures c.in-ManyPoints.is c.read_points.ensures)

pub returns : goal.returns
returns c = c.unmarked_in_c.ensures
    ∙ ap (go_in_c 0) (alone-shaped c.args.rule _ _ c.shape_in-shape.ensures c.in_default.not-ManyPoints c.value_by.ensures)
