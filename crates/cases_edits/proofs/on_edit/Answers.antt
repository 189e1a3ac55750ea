use Rattle.lists.proofs.Prelude.{arith, sym, length-take-le}
use Rattle.cases_edits.proofs.on_edit.Goals as goal

pub slice_bounds-keep-end : goal.slice_bounds-keep-end
slice_bounds-keep-end c = sym (length-take-le _ _ (omega arith))
