use Rattle.lists.proofs.Paste.{Backing}
use Rattle.edit_splice.proofs.move_right.Given as goal

abbrev pub invariant-loop-k : goal.invariant-loop-k
invariant-loop-k l = Backing l.initial.buffer l.from l.to l.n l.buffer l.k
