use Rattle.lists.proofs.Prelude.{ap₂, ◌∙◌}
use Rattle.fit_rule.specs.Rule.{rule_at, rule_by}
use Rattle.fit_rule.proofs.rule_at.Goals as goal

pub returns : goal.returns
unfolding rule_at
returns c = c.rule_of.ensures ∙ ap₂ rule_by c.game_at.ensures c.size_at-size.ensures
