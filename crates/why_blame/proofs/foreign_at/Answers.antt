use Rattle.lists.proofs.Prelude.{◌≡◌, refl, sym, ◌∙◌, arith}
use borrow.Author.Tests.{ltb-true, ltb-false}
use Rattle.why_blame.proofs.Scans.{foreign-past, foreign-here, foreign-on}
use Rattle.why_blame.proofs.foreign_at.Goals as goal

pub loop-i-init : goal.loop-i-init
loop-i-init c = (refl, omega arith)

pub returns-then-not-is_ascii : goal.returns-then-not-is_ascii
returns-then-not-is_ascii c =
    sym (foreign-here c.args.s.now c.loop-i.i c.loop-i-test.true (ltb-false _ _ (sym c.is_ascii.ensures ∙ c.if-not-is_ascii.true))) ∙ c.loop-i.invariant.0

pub loop-i-preserved : goal.loop-i-preserved
loop-i-preserved c =
    let low = ltb-true _ _ (sym c.is_ascii.ensures ∙ c.if-not-is_ascii.false) in
    (sym (foreign-on c.args.s.now c.loop-i.i c.loop-i-test.true low) ∙ c.loop-i.invariant.0, omega (arith, c.loop-i-test.true))

pub returns : goal.returns
returns c =
    let e : c.max.result ≡ c.loop-i.i = omega (arith, c.max.ensures, c.loop-i.auto.i, c.loop-i-test.false, c.loop-i.invariant.1) in
    e ∙ sym (foreign-past _ _ c.loop-i-test.false) ∙ c.loop-i.invariant.0
