use Rattle.lists.proofs.Prelude.{ℕ, ◌+◌, ◌-◌, ◌*◌, ◌/◌, min, length, ◌≤◌, ◌<◌, ◌≡◌, ap, ◌∙◌, arith}
use Rattle.tables.specs.Columns.{first_val_at}
use Rattle.edit_rows.proofs.Rows.{props-none, prop-ahead, prop-cell, props-shift, props-done}
use Rattle.edit_rows.proofs.Shifting.{before-goes, before-within, before-least}
use Rattle.feed_apply.specs.LocalsSizes.{moved_prop}
use Rattle.feed_apply.proofs.Sizes.{tallied-begin}
use Rattle.feed_apply.proofs.Stretches.{rises, name-moved}
use Rattle.feed_apply.proofs.rows.move_properties.Goals as goal

pub loop-k-init : goal.loop-k-init
loop-k-init c = let a = c.args in
    let b = c.begin-s.ensures in (
      props-none (moved_prop a.properties.now a.values.now a.feed.now) a.properties.now a.p c.requires.0,
      tallied-begin a.values.now a.feed.now b,
      λ j _ _ y. b.1 j (omega arith) y,
    )

pub overflow_mul-first : goal.overflow_mul-first
overflow_mul-first c = let p = c.requires in
    let l = c.loop-k in
    let h = c.loop-k-test.true in
    let x = l.invariant.0 in
    omega (arith, h, p.0, x.put.len, c.well_formed)

pub overflow_add-first : goal.overflow_add-first
overflow_add-first c = let p = c.requires in
    let l = c.loop-k in
    let h = c.loop-k-test.true in
    let x = l.invariant.0 in
    omega (arith, h, p.0, x.put.len, c.well_formed)

pub offset_bounds-properties-k : goal.offset_bounds-properties-k
offset_bounds-properties-k c = let p = c.requires in
    let l = c.loop-k in
    let h = c.loop-k-test.true in
    let x = l.invariant.0 in
    omega (arith, h, p.0, x.put.len, c.well_formed)

pub bounds-properties-k : goal.bounds-properties-k
bounds-properties-k c = let p = c.requires in
    let l = c.loop-k in
    let h = c.loop-k-test.true in
    let x = l.invariant.0 in
    omega (arith, h, p.0, x.put.len, c.well_formed)

pub reach-s-requires : goal.reach-s-requires
reach-s-requires c = let a = c.args in
    let p = c.requires in
    let l = c.loop-k in
    let h = c.loop-k-test.true in
    let x = l.invariant.0 in
    let pr = a.properties.now in
    let o : c.wide.result ≡ first_val_at pr l.k = c.wide.ensures ∙ prop-cell _ _ _ x 2 in
    (p.1, p.2, omega (arith, o, p.3.here l.k h), l.invariant.1, λ j y z. l.invariant.2 j h (omega (arith, y, o)) z)

pub shift_to-k-requires : goal.shift_to-k-requires
shift_to-k-requires c = let p = c.requires in
    let x = c.loop-k.invariant.0 in
    λ j y u. omega (arith, prop-ahead _ _ _ x (j * 4 + 2) (omega arith), p.3.here j (omega arith))

pub overflow_add-k : goal.overflow_add-k
overflow_add-k c = let a = c.args in
    let p = c.requires in
    let l = c.loop-k in
    let h = c.loop-k-test.true in
    let x = l.invariant.0 in
    let s = c.reach-s.result in
    let z = c.shift_to-k.ensures in
    let many = min (a.p - l.k) (length l.properties / 4 - l.k) in
    let left = before-within l.properties s.due l.k many in
    omega (arith, z.0, left, h, p.0, x.put.len, c.well_formed)

pub loop-k-smaller : goal.loop-k-smaller
loop-k-smaller c = let a = c.args in
    let p = c.requires in
    let l = c.loop-k in
    let h = c.loop-k-test.true in
    let x = l.invariant.0 in
    let pr = a.properties.now in
    let o : c.wide.result ≡ first_val_at pr l.k = c.wide.ensures ∙ prop-cell _ _ _ x 2 in
    let r = c.reach-s.ensures in
    let s = c.reach-s.result in
    let z = c.shift_to-k.ensures in
    let first : first_val_at l.properties l.k ≤ s.due = omega (arith, r.0, o, prop-cell _ _ _ x 2) in
    let many = min (a.p - l.k) (length l.properties / 4 - l.k) in
    let goes = before-goes l.properties s.due l.k many (omega (arith, h, p.0, x.put.len)) first in
    omega (arith, z.0, goes, h)

pub loop-k-preserved : goal.loop-k-preserved
loop-k-preserved c = let a = c.args in
    let p = c.requires in
    let l = c.loop-k in
    let h = c.loop-k-test.true in
    let x = l.invariant.0 in
    let pr = a.properties.now in
    let vl = a.values.now in
    let w = a.feed.now in
    let o : c.wide.result ≡ first_val_at pr l.k = c.wide.ensures ∙ prop-cell _ _ _ x 2 in
    let r = c.reach-s.ensures in
    let s = c.reach-s.result in
    let m = c.shift_to-k.result in
    let z = c.shift_to-k.ensures in
    let many = min (a.p - l.k) (length l.properties / 4 - l.k) in
    let left = before-within l.properties s.due l.k many in
    let up : (j : ℕ) → l.k ≤ j → j < a.p → first_val_at pr l.k ≤ first_val_at pr j = rises pr vl w a.p a.n p.3 p.4 l.k in
    let least : (j : ℕ) → l.k ≤ j → j < l.k + m → first_val_at pr j ≤ s.due =
    λ j y u. let e : l.k + (j - l.k) ≡ j = omega arith in
    let b = before-least l.properties s.due l.k many (j - l.k) (omega (arith, z.0, y, u)) in
    omega (arith, b, ap (first_val_at l.properties) e, prop-ahead _ _ _ x (j * 4 + 2) (omega arith)) in (
      props-shift _ _ _ x _ m (omega (arith, z.0, left, h))
          (λ j y u. name-moved pr vl w a.p a.n p.3 p.4 r.1 _ c.change-by.ensures j (omega (arith, z.0, left, h, u)) (least j y u) (λ i b d. r.2 i (omega (arith, b, o, up j y (omega (arith, z.0, left, h, u)))) d))
          z.1,
      r.1,
      λ j y b d. r.2 j (omega (arith, o, b, up (l.k + m) (omega arith) y)) d,
    )

pub returns : goal.returns
returns c = props-done _ _ _ c.loop-k.invariant.0 c.loop-k-test.false
