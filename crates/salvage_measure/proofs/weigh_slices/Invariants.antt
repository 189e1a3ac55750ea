use Rattle.salvage_measure.specs.LocalsMeasure.{SlicesMeasured, SlicesCounted}
use Rattle.lists.proofs.Prelude.{◌-◌}
use Rattle.salvage_shape.specs.LocalsWalk.{Arrays}
use Rattle.salvage_measure.proofs.weigh_slices.Given as goal

abbrev pub invariant-loop-k : goal.invariant-loop-k
invariant-loop-k l = SlicesMeasured l.s l.from l.count l.at l.base l.bytes l.depth l.k × Arrays l.stack l.marks l.cells × SlicesCounted l.s l.from l.count l.at l.base l.listed l.k

abbrev pub decreases-loop-k : goal.decreases-loop-k
decreases-loop-k l = l.count - l.k
