use Rattle.lists.proofs.Prelude.{rules, refl}
use Rattle.lists.proofs.Paste.{paste_none, paste_more, paste-done}
use Rattle.edit_splice.proofs.copy_in.Goals as goal

pub loop-i-init : goal.loop-i-init
loop-i-init c = paste_none _ _ _ _ (search rules) (search rules)

pub loop-i-preserved : goal.loop-i-preserved
loop-i-preserved c = paste_more c.loop-i.invariant c.loop-i-test.true refl

pub returns : goal.returns
returns c = paste-done c.loop-i.invariant c.loop-i-test.false
