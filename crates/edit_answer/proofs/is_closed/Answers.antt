use Rattle.edit_answer.proofs.Tested.{closed-more, closed-not, closed-end}
use Rattle.lists.proofs.Prelude.{refl}
use Rattle.edit_answer.proofs.is_closed.Goals as goal

pub loop-i-init : goal.loop-i-init
loop-i-init c = refl

pub returns-then-escaped-b : goal.returns-then-escaped-b
returns-then-escaped-b c = closed-not _ _ _ c.loop-i.invariant c.loop-i-test.true c.if-escaped-b.true

pub loop-i-preserved : goal.loop-i-preserved
loop-i-preserved c = closed-more _ _ _ c.loop-i.invariant c.loop-i-test.true c.if-escaped-b.false

pub returns : goal.returns
returns c = closed-end _ _ _ c.loop-i.invariant c.loop-i-test.false
