use Rattle.lists.proofs.Prelude.{◌+◌, sym, arith}
use Rattle.lexer_close.proofs.Bounds.{close-bounds}
use Rattle.lexer_close.proofs.quick_end.Goals as goal

pub overflow_add-result : goal.overflow_add-result
overflow_add-result c = let a = c.args in
    let b = close-bounds a.s.now a.from (a.from + 2) (c.is_pair.ensures.1 c.if-is_pair.true) in
    omega arith

pub returns-then-is_pair : goal.returns-then-is_pair
returns-then-is_pair c = sym (c.is_pair.ensures.1 c.if-is_pair.true)
