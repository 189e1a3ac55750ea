use Rattle.lists.proofs.Prelude.{ℕ, suc, ◌+◌, ◌-◌, ◌≡◌, ap, ap₂, ◌∙◌, arith}
use Rattle.tables.specs.Columns.{first_val_at}
use Rattle.edit_rows.specs.LocalsShift.{names_before, names_shifted}
use Rattle.edit_rows.proofs.Shifting.{names-none, name-cell, names_moved, before-none, before-stops, before-goes}
use Rattle.edit_rows.proofs.shift_names.Goals as goal

pub loop-i-init : goal.loop-i-init
loop-i-init c = let a = c.args in
    let e : a.k + 0 ≡ a.k = omega arith in
    let g : c.lent-left.result - 0 ≡ c.lent-left.result = omega arith in
    (names-none _ _ _ _ (omega (arith, c.lent-left.ensures)), omega (arith, ap₂ (names_before a.properties.now a.v) e g))

pub returns-then-v-wide : goal.returns-then-v-wide
returns-then-v-wide c = let a = c.args in
    let l = c.loop-i in
    let h = c.loop-i-test.true in
    let x = l.invariant.0 in
    let f : c.wide.result ≡ first_val_at a.properties.now (a.k + l.i) = c.wide.ensures ∙ name-cell _ _ _ _ x h 2 in
    let z = before-stops a.properties.now a.v (a.k + l.i) (c.lent-left.result - l.i) (omega arith) (omega (arith, f, c.if-v-wide.true)) in
    let e = ap (names_before a.properties.now a.v a.k) c.lent-left.ensures in
    (omega (arith, e, z, l.invariant.1), x.is)

pub loop-i-preserved : goal.loop-i-preserved
loop-i-preserved c = let a = c.args in
    let l = c.loop-i in
    let h = c.loop-i-test.true in
    let x = l.invariant.0 in
    let n = c.lent-left.result in
    let f : c.wide.result ≡ first_val_at a.properties.now (a.k + l.i) = c.wide.ensures ∙ name-cell _ _ _ _ x h 2 in
    let z = before-goes a.properties.now a.v (a.k + l.i) (n - l.i) (omega arith) (omega (arith, f, c.if-v-wide.false)) in
    let e : suc (a.k + l.i) ≡ a.k + (l.i + 1) = omega arith in
    let g : n - l.i - 1 ≡ n - (l.i + 1) = omega arith in
    let w = ap (λ (y : ℕ). names_before a.properties.now a.v y (n - l.i - 1)) e in
    let u = ap (names_before a.properties.now a.v (a.k + (l.i + 1))) g in (
      names_moved _ _ _ _ x h c.move_row.ensures,
      omega (arith, l.invariant.1, z, w, u),
    )

pub returns : goal.returns
returns c = let a = c.args in
    let l = c.loop-i in
    let x = l.invariant.0 in
    let n = c.lent-left.result in
    let i : l.i ≡ n = omega (arith, c.loop-i-test.false) in
    let y : n - l.i ≡ 0 = omega (arith, c.loop-i-test.false) in
    let z = ap (names_before a.properties.now a.v (a.k + l.i)) y ∙ before-none a.properties.now a.v (a.k + l.i) in
    let e = ap (names_before a.properties.now a.v a.k) c.lent-left.ensures in
    (omega (arith, e, z, l.invariant.1), x.is ∙ ap (λ (z : ℕ). names_shifted a.by a.k z a.properties.now) i)
