use Rattle.lists.proofs.Prelude.{sym, ap₂, ◌∙◌, subst}
use Rattle.fit_rule.specs.Rule.{rule_by, root_properties_at, rule_at}
use Rattle.c_size.specs.SizeInC.{size_in_c}
use Rattle.c_size.specs.Locals.{SmallSides}
use Rattle.c_size.proofs.Sides.{sides-small}
use Rattle.c_size.proofs.size_by_rows.Goals as goal

pub in_c-requires : goal.in_c-requires
in_c-requires c = let args = c.args in
    subst SmallSides (sym c.size_at-size.ensures) (sides-small (root_properties_at args.text.now args.trees.now args.nodes.now args.properties.now args.values.now args.r))

pub returns : goal.returns
unfolding rule_at
returns c = let size = c.size_at-size.ensures in
    c.in_c.ensures ∙ ap₂ size_in_c size (c.rule_of-rule.ensures ∙ ap₂ rule_by c.game_at.ensures size)
