use Rattle.lists.proofs.Paste.{back_none, back_more, back_done}
use Rattle.edit_splice.proofs.move_right.Goals as goal

pub loop-k-init : goal.loop-k-init
loop-k-init c = back_none _ _ _ _ c.requires.0 c.requires.1

pub loop-k-preserved : goal.loop-k-preserved
loop-k-preserved c = back_more c.loop-k.invariant c.loop-k-test.true

pub returns : goal.returns
returns c = back_done c.loop-k.invariant c.loop-k-test.false
