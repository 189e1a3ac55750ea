use Rattle.lists.proofs.Prelude.{drop}
use Rattle.lists.proofs.Paste.{Pasting}
use Rattle.edit_splice.proofs.move_left.Given as goal

abbrev pub invariant-loop-i : goal.invariant-loop-i
invariant-loop-i l = Pasting l.initial.buffer l.to (drop l.from l.initial.buffer) l.n l.buffer l.i
