use Rattle.lists.proofs.Prelude.{length-take-le, arith, sym}
use Rattle.cases_edits.proofs.say.say_record.Goals as goal

pub slice_bounds-write_all-end : goal.slice_bounds-write_all-end
slice_bounds-write_all-end c = sym (length-take-le _ _ (omega arith))

pub slice_bounds-say_rows-end : goal.slice_bounds-say_rows-end
slice_bounds-say_rows-end c = sym (length-take-le _ _ (omega arith))

pub slice_bounds-say_rows-end-2 : goal.slice_bounds-say_rows-end-2
slice_bounds-say_rows-end-2 c = sym (length-take-le _ _ (omega arith))
