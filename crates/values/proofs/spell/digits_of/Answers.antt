use Rattle.lists.proofs.Prelude.{◌≤◌, ◌≡◌, refl, arith, lt-ltb, le-ltb, length, length-set}
use Rattle.values.specs.Decimal.{decimal}
use Rattle.values.proofs.Spelling.{spell-turn, spell-none}
use Rattle.values.proofs.spell.digits_of.Goals as goal

pub loop-i-init : goal.loop-i-init
unfolding decimal
loop-i-init c = (refl, omega arith, refl)

pub loop-i-preserved : goal.loop-i-preserved
loop-i-preserved c = let l = c.loop-i in
    let h : l.i ≤ length l.bytes = omega arith in
    (rw (spell-turn l.i l.rest l.bytes c.loop-i-test.true h, le-ltb l.rest 10 c.if-rest-lt10.false) at l.invariant.0, omega arith, simp length-set l.invariant.2)

pub returns-after-loop-i : goal.returns-after-loop-i
returns-after-loop-i c = let l = c.loop-i in
    let e : l.i ≡ 0 = omega arith in
    (spell-none l.i l.rest l.bytes e l.invariant.0, omega arith, l.invariant.2)

pub returns-then-rest-lt10 : goal.returns-then-rest-lt10
returns-then-rest-lt10 c = let l = c.loop-i in
    let h : l.i ≤ length l.bytes = omega arith in
    (rw (spell-turn l.i l.rest l.bytes c.loop-i-test.true h, lt-ltb l.rest 10 c.if-rest-lt10.true) at l.invariant.0, omega arith, simp length-set l.invariant.2)
