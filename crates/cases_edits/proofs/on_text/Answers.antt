use Rattle.lists.proofs.Prelude.{length-take-le, sym}
use Rattle.cases_edits.proofs.on_text.Goals as goal

pub slice_bounds-read_strict-end-2 : goal.slice_bounds-read_strict-end-2
slice_bounds-read_strict-end-2 c = sym (length-take-le _ _ c.load-n.ensures)
