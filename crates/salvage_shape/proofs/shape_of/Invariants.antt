use Rattle.salvage_shape.proofs.Walking.{Walking}
use Rattle.lists.proofs.Prelude.{◌-◌, length}
use Rattle.salvage_shape.proofs.shape_of.Given as goal

abbrev pub invariant-loop-i : goal.invariant-loop-i
invariant-loop-i l = Walking l.s l.from l.base l.stack l.marks l.cells l.at l.depth l.cur l.n l.follows l.fresh l.brackets l.c l.root l.bytes l.listed

abbrev pub decreases-loop-i : goal.decreases-loop-i
decreases-loop-i l = length l.s - l.at
