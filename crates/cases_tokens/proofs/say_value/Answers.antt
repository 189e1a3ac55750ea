use Rattle.lists.proofs.Prelude.{sym, ◌∙◌, arith}
use Rattle.lexer_scan.proofs.Bounds.{value-is}
use Rattle.cases_tokens.proofs.say_value.Goals as goal

-- what the call of `next_value` found lies in the text
pub slice_bounds-say_read-count : goal.slice_bounds-say_read-count
slice_bounds-say_read-count c =
    let w = value-is _ _ _ _ _ (sym c.next_value.ensures ∙ c.in-Value.is) in
    omega (arith, w.forward, w.inside)

pub slice_bounds-say_read-start : goal.slice_bounds-say_read-start
slice_bounds-say_read-start c =
    let w = value-is _ _ _ _ _ (sym c.next_value.ensures ∙ c.in-Value.is) in
    omega (arith, w.forward, w.inside)

pub slice_bounds-say_read-end : goal.slice_bounds-say_read-end
slice_bounds-say_read-end c =
    let w = value-is _ _ _ _ _ (sym c.next_value.ensures ∙ c.in-Value.is) in
    omega (arith, w.forward, w.inside)
