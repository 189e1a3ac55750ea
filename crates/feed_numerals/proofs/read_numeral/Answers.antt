use Rattle.lists.proofs.Prelude.{◌-◌, arith}
use Rattle.feed_numerals.proofs.Groups.{product_small, weight-small, weight-more, value-more, value-below, numeral-short, numeral-long, numeral-last, numeral-more, numeral-end, numeral-first}
use Rattle.feed_numerals.proofs.read_numeral.Goals as goal

pub loop-size-init : goal.loop-size-init
loop-size-init c = (numeral-first c.args.s.now c.args.at, omega arith, omega arith)

pub returns-then-s-place : goal.returns-then-s-place
returns-then-s-place c = let a = c.args in
    let l = c.loop-size in
    (numeral-short a.s.now a.at l.value l.weight l.size l.place l.invariant.0 c.loop-size-test.true c.if-s-place.true, tt)

pub returns-then-size-b : goal.returns-then-size-b
returns-then-size-b c = let a = c.args in
    let l = c.loop-size in
    let w = c.from-b in
    let t = c.loop-size-test.true in
    let i = c.if-s-place.false in
    (numeral-long a.s.now a.at l.value l.weight l.size l.place l.invariant.0 w.result w.ensures t i c.if-b-lt128.true c.if-size-b.true, tt)

pub overflow_mul-result : goal.overflow_mul-result
overflow_mul-result c = let a = c.args in
    let l = c.loop-size in
    let w = c.from-b in
    let t = c.loop-size-test.true in
    let i = c.if-s-place.false in
    let p = product_small l.weight w.result l.size l.invariant.2 t (omega (arith, c.if-b-lt128.true)) in
    omega (arith, p)

pub overflow_add-result : goal.overflow_add-result
overflow_add-result c = let a = c.args in
    let l = c.loop-size in
    let w = c.from-b in
    let t = c.loop-size-test.true in
    let i = c.if-s-place.false in
    let p = product_small l.weight w.result l.size l.invariant.2 t (omega (arith, c.if-b-lt128.true)) in
    omega (arith, p, l.invariant.1, weight-small l.weight l.size l.invariant.2 t)

pub returns-then-b-lt128 : goal.returns-then-b-lt128
returns-then-b-lt128 c = let a = c.args in
    let l = c.loop-size in
    let w = c.from-b in
    let t = c.loop-size-test.true in
    let i = c.if-s-place.false in
    (numeral-last a.s.now a.at l.value l.weight l.size l.place l.invariant.0 w.result w.ensures t i c.if-b-lt128.true c.if-size-b.false, value-below l.value l.weight w.result l.size l.invariant.1 l.invariant.2 t c.if-b-lt128.true)

pub overflow_mul-value : goal.overflow_mul-value
overflow_mul-value c = let a = c.args in
    let l = c.loop-size in
    let w = c.from-b in
    let t = c.loop-size-test.true in
    let i = c.if-s-place.false in
    let p = product_small l.weight (w.result - 0x80) l.size l.invariant.2 t (omega (arith, w.type_inv)) in
    omega (arith, p)

pub overflow_add-value : goal.overflow_add-value
overflow_add-value c = let a = c.args in
    let l = c.loop-size in
    let w = c.from-b in
    let t = c.loop-size-test.true in
    let i = c.if-s-place.false in
    let p = product_small l.weight (w.result - 0x80) l.size l.invariant.2 t (omega (arith, w.type_inv)) in
    omega (arith, p, l.invariant.1, weight-small l.weight l.size l.invariant.2 t)

pub overflow_mul-weight : goal.overflow_mul-weight
overflow_mul-weight c = let a = c.args in
    let l = c.loop-size in
    let t = c.loop-size-test.true in
    omega (arith, weight-small l.weight l.size l.invariant.2 t)

pub loop-size-preserved : goal.loop-size-preserved
loop-size-preserved c = let a = c.args in
    let l = c.loop-size in
    let w = c.from-b in
    let t = c.loop-size-test.true in
    let i = c.if-s-place.false in (
      numeral-more a.s.now a.at l.value l.weight l.size l.place l.invariant.0 w.result w.ensures t i c.if-b-lt128.false,
      value-more l.value l.weight (w.result - 0x80) l.invariant.1 (omega (arith, w.type_inv)),
      weight-more l.weight l.size l.invariant.2,
    )

pub returns : goal.returns
returns c = let a = c.args in
    let l = c.loop-size in
    (numeral-end a.s.now a.at l.value l.weight l.size l.place l.invariant.0 c.loop-size-test.false, tt)
