use Rattle.lists.proofs.Prelude.{length}
use Rattle.lists.proofs.Paste.{Pasting}
use Rattle.edit_splice.proofs.copy_in.Given as goal

abbrev pub invariant-loop-i : goal.invariant-loop-i
invariant-loop-i l = Pasting l.initial.buffer l.at l.new (length l.new) l.buffer l.i
