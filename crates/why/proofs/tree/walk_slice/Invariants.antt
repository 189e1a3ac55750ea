use Rattle.lists.proofs.Prelude.{◌-◌, length}
use Rattle.why.proofs.Going.{Going}
use Rattle.why.proofs.tree.walk_slice.Given as goal

abbrev pub invariant-loop-i : goal.invariant-loop-i
invariant-loop-i l = Going l.s l.from l.base l.stack l.at l.depth l.cur l.n l.follows

abbrev pub decreases-loop-i : goal.decreases-loop-i
decreases-loop-i l = length l.s - l.at
