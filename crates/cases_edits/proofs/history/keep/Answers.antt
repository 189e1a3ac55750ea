use Rattle.lists.proofs.Prelude.{arith, length-set}
use Rattle.cases_edits.proofs.history.keep.Goals as goal

pub bounds-heads-slot-2 : goal.bounds-heads-slot-2
bounds-heads-slot-2 c = simp length-set (omega arith)
