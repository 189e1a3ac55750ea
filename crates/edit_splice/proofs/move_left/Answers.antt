use Rattle.lists.proofs.Prelude.{arith, length-drop}
use Rattle.lists.proofs.Paste.{paste_none, paste_more, paste-done, left-value}
use Rattle.edit_splice.proofs.move_left.Goals as goal

pub loop-i-init : goal.loop-i-init
loop-i-init c = paste_none _ _ _ _ (omega (arith, c.requires.0, c.requires.1)) (simp length-drop (omega (arith, c.requires.1)))

pub loop-i-preserved : goal.loop-i-preserved
loop-i-preserved c = paste_more c.loop-i.invariant c.loop-i-test.true (left-value c.loop-i.invariant c.requires.0)

pub returns : goal.returns
returns c = paste-done c.loop-i.invariant c.loop-i-test.false
