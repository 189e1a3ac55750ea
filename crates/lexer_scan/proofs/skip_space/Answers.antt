use Rattle.lists.proofs.Prelude.{◌≡◌, sym, ◌∙◌, arith, length, not-true, not-false}
use native.Mathlib.Decide.{dec_le}
use Rattle.lexer_scan.proofs.Scans.{skip-past, skip-on, skip_stop}
use Rattle.lexer_scan.proofs.skip_space.Goals as goal

pub returns-then-not-is_space : goal.returns-then-not-is_space
returns-then-not-is_space c = let s = c.args.s.now in
    let l = c.loop-i in
    sym (skip_stop s l.i c.loop-i-test.true (sym c.is_space.ensures ∙ not-true _ c.if-not-is_space.true-raw)) ∙ l.invariant

pub loop-i-preserved : goal.loop-i-preserved
loop-i-preserved c = let s = c.args.s.now in
    let l = c.loop-i in
    sym (skip-on s l.i c.loop-i-test.true (sym c.is_space.ensures ∙ not-false _ c.if-not-is_space.false-raw)) ∙ l.invariant

pub returns : goal.returns
returns c = let s = c.args.s.now in
    let l = c.loop-i in
    let m = c.max.ensures in
    elim (dec_le c.args.from (length s)) [
      | yes h ↦ let i : c.max.result ≡ l.i = omega (arith, l.auto.i-end h) in i ∙ sym (skip-past s l.i c.loop-i-test.false) ∙ l.invariant
      | no h ↦ let i : c.max.result ≡ c.args.from = omega arith in i ∙ sym (skip-past s c.args.from (omega arith))
    ]
