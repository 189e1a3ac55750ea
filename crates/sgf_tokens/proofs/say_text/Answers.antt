use Rattle.lists.proofs.Prelude.{sym, ◌∙◌, length-take-le}
use Rattle.text_utf8.proofs.Extent.{trim-bounds}
use Rattle.sgf_tokens.proofs.say_text.Goals as goal

pub slice_bounds-say_tokens-end : goal.slice_bounds-say_tokens-end
slice_bounds-say_tokens-end c = let w = trim-bounds _ _ _ (sym c.trim.ensures ∙ c.in-Kept.is) in
    sym (length-take-le _ _ w.1)
