use Rattle.lists.proofs.Prelude.{◌+◌, ◌≡◌, refl, sym, ◌∙◌, arith}
use Rattle.lexer_close.proofs.Bounds.{close-bounds}
use Rattle.lexer_scan.specs.Scan.{skip_at}
use Rattle.lexer_scan.proofs.Bounds.{skip-bounds, past, value_on, value-open, value_none}
use Rattle.lexer_scan.proofs.Values.{values-more, values-unclosed, values-none}
use Rattle.lexer_scan.proofs.values_end.Goals as goal

pub loop-i-init : goal.loop-i-init
loop-i-init c = refl

pub overflow_add-to : goal.overflow_add-to
overflow_add-to c = let b = close-bounds c.args.s.now _ _ (sym c.quick_end.ensures ∙ c.in-Some.is) in
    omega arith

pub loop-i-smaller : goal.loop-i-smaller
loop-i-smaller c = let s = c.args.s.now in
    let e : c.skip_space-i.result ≡ skip_at s (c.in-Some.to + 1) = c.skip_space-i.ensures in
    let b = close-bounds s _ _ (sym c.quick_end.ensures ∙ c.in-Some.is) in
    omega (arith, b, skip-bounds s (c.in-Some.to + 1), c.if-s-i.false)

pub loop-i-preserved : goal.loop-i-preserved
loop-i-preserved c = let s = c.args.s.now in
    sym (values-more s _ _ _ _ (value_on s _ _ _ c.if-s-i-ne91.false (sym c.quick_end.ensures ∙ c.in-Some.is) c.skip_space-i.ensures))
    ∙ c.loop-i.invariant

pub returns-then-s-i : goal.returns-then-s-i
returns-then-s-i c = let s = c.args.s.now in
    sym (sym c.loop-i.invariant ∙ values-none s _ (value_none s _ (past s _ c.if-s-i.true)))

pub returns-then-s-i-ne91 : goal.returns-then-s-i-ne91
returns-then-s-i-ne91 c = let s = c.args.s.now in
    sym (sym c.loop-i.invariant ∙ values-none s _ (value_none s _ c.if-s-i-ne91.true))

pub returns-in_default : goal.returns-in_default
returns-in_default c = let s = c.args.s.now in
    sym (sym c.loop-i.invariant ∙ values-unclosed s _ (value-open s _ c.if-s-i-ne91.false (sym c.quick_end.ensures ∙ c.in_default.is)))
