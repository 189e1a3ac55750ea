use Rattle.lists.proofs.Prelude.{sym, length-take-le}
use Rattle.cases_tokens.proofs.say.Goals as goal

pub slice_bounds-say_trimmed-end : goal.slice_bounds-say_trimmed-end
slice_bounds-say_trimmed-end c = sym (length-take-le _ _ c.decode-n.ensures)
