use Rattle.lists.proofs.Prelude.{sym, ◌∙◌}
use Rattle.fit_rule.proofs.Ruling.{rule-other, rule-pass, rule-point}
use Rattle.fit_rule.proofs.rule_of.Goals as goal

pub returns-then-game-ne0 : goal.returns-then-game-ne0
returns-then-game-ne0 c = let args = c.args in rule-other args.game args.size c.if-game-ne0.true

pub returns-then-tt_passes : goal.returns-then-tt_passes
returns-then-tt_passes c = let args = c.args in rule-pass args.game args.size c.if-game-ne0.false (sym c.tt_passes.ensures ∙ c.if-tt_passes.true)

pub returns : goal.returns
returns c = let args = c.args in rule-point args.game args.size c.if-game-ne0.false (sym c.tt_passes.ensures ∙ c.if-tt_passes.false)
