use Rattle.lists.proofs.Prelude.{sym, ◌∙◌, arith}
use Rattle.lexer_close.proofs.Bounds.{close-bounds}
use Rattle.lexer_scan.proofs.Bounds.{past, value_on, value-open, value_none}
use Rattle.lexer_scan.proofs.next_value.Goals as goal

pub returns-then-s-at : goal.returns-then-s-at
returns-then-s-at c = let s = c.args.s.now in sym (value_none s _ (past s _ c.if-s-at.true))

pub returns-then-s-at-ne91 : goal.returns-then-s-at-ne91
returns-then-s-at-ne91 c = let s = c.args.s.now in sym (value_none s _ c.if-s-at-ne91.true)

pub returns-in_default : goal.returns-in_default
returns-in_default c = let s = c.args.s.now in
    sym (value-open s _ c.if-s-at-ne91.false (sym c.quick_end.ensures ∙ c.in_default.is))

pub overflow_add-to : goal.overflow_add-to
overflow_add-to c = let b = close-bounds c.args.s.now _ _ (sym c.quick_end.ensures ∙ c.in-Some.is) in
    omega arith

pub returns : goal.returns
returns c = let s = c.args.s.now in
    sym (value_on s _ _ _ c.if-s-at-ne91.false (sym c.quick_end.ensures ∙ c.in-Some.is) c.skip_space-next.ensures)
