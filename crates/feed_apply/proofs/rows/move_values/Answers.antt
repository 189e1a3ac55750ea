use Rattle.lists.proofs.Prelude.{ℕ, suc, ◌+◌, ◌-◌, ◌*◌, ◌≡◌, ap, ap₂, ◌∙◌, add-one, arith}
use Rattle.tables.specs.Numbers.{text_limit}
use Rattle.edit_rows.proofs.Rows.{vals-none, val-ahead, val-cell, vals-more, vals-done}
use Rattle.feed_apply.specs.LocalsSizes.{moved_val, old_size, grown_to, shrunk_to}
use Rattle.feed_apply.proofs.Sizes.{beside-begin, beside_at, beside-pass, shrunk-start, shrunk-end, grown-up}
use Rattle.feed_apply.proofs.Stretches.{value-moved, vals-to}
use Rattle.feed_apply.proofs.rows.move_values.Goals as goal

pub loop-s-init : goal.loop-s-init
loop-s-init c = let a = c.args in
    (vals-none (moved_val a.values.now a.feed.now) a.values.now a.n c.requires.0, beside-begin a.values.now a.feed.now a.n c.begin-s.ensures)

pub overflow_mul-at : goal.overflow_mul-at
overflow_mul-at c = omega (arith, c.loop-s-test.true, c.requires.0, c.loop-s.invariant.0.put.len, c.well_formed)

pub size_of-old-requires : goal.size_of-old-requires
size_of-old-requires c = let l = c.loop-s in
    let p = c.requires in
    let e = val-ahead _ _ _ l.invariant.0 (l.s.due * 2) (omega (arith, l.invariant.1.bound)) in
    let f = val-ahead _ _ _ l.invariant.0 (l.s.due * 2 + 1) (omega (arith, l.invariant.1.bound)) in
    (omega (arith, c.loop-s-test.true, p.0, l.invariant.0.put.len), omega (arith, e, f, p.1.order l.s.due c.loop-s-test.true))

pub offset_bounds-values-at : goal.offset_bounds-values-at
offset_bounds-values-at c = omega (arith, c.loop-s-test.true, c.requires.0, c.loop-s.invariant.0.put.len, c.well_formed)

pub bounds-values-at : goal.bounds-values-at
bounds-values-at c = omega (arith, c.loop-s-test.true, c.requires.0, c.loop-s.invariant.0.put.len, c.well_formed)

pub moved-from-requires : goal.moved-from-requires
moved-from-requires c = let a = c.args in
    let p = c.requires in
    let l = c.loop-s in
    let x = l.invariant.0 in let b = l.invariant.1 in
    let vl = a.values.now in let w = a.feed.now in
    let v = l.s.due in
    let h = c.loop-s-test.true in
    let e = val-ahead _ _ _ x (v * 2) (omega (arith, b.bound)) in
    let t = beside_at vl w a.n b v b.bound (omega arith) in
    let d = grown-up vl w v a.n (omega arith) in
    let i = p.1.inside v h in let o = p.1.order v h in
    let u = shrunk-start vl w a.n text_limit p.1 v h in
    (omega (arith, e, i, o), omega (arith, t.0, d, p.2), omega (arith, e, t.1, u))

pub overflow_sub-v : goal.overflow_sub-v
overflow_sub-v c = omega (arith, c.loop-s.invariant.1.bound)

pub pass-s-requires : goal.pass-s-requires
pass-s-requires c = let a = c.args in
    let p = c.requires in
    let l = c.loop-s in
    let x = l.invariant.0 in let b = l.invariant.1 in
    let vl = a.values.now in let w = a.feed.now in
    let v = l.s.due in
    let h = c.loop-s-test.true in
    let e = val-ahead _ _ _ x (v * 2) (omega (arith, b.bound)) in
    let f = val-ahead _ _ _ x (v * 2 + 1) (omega (arith, b.bound)) in
    let t = beside_at vl w a.n b v b.bound (omega arith) in
    let i = p.1.inside v h in let o = p.1.order v h in
    let u = shrunk-start vl w a.n text_limit p.1 v h in
    (h, b.stands, omega (arith, e, f, t.1, u, i, o, c.size_of-old.ensures))

pub overflow_add-at : goal.overflow_add-at
overflow_add-at c = omega (arith, c.loop-s-test.true, c.requires.0, c.loop-s.invariant.0.put.len, c.well_formed)

pub offset_bounds-values-at-in-loop-s : goal.offset_bounds-values-at-in-loop-s
offset_bounds-values-at-in-loop-s c = omega (arith, c.loop-s-test.true, c.requires.0, c.loop-s.invariant.0.put.len, c.well_formed)

pub bounds-values-at-in-loop-s : goal.bounds-values-at-in-loop-s
bounds-values-at-in-loop-s c = let a = c.args in
    let p = c.requires in
    let l = c.loop-s in
    let x = l.invariant.0 in let b = l.invariant.1 in
    let vl = a.values.now in let w = a.feed.now in
    let v = l.s.due in
    let h = c.loop-s-test.true in
    let y = vals-to x _ v b.bound (omega arith) (λ j m z. value-moved vl w a.n p.1 p.2 b _ c.change-by.ensures j m z (omega arith)) (omega (arith, b.bound, h, p.0, x.put.len)) c.shift_values.ensures in
    omega (arith, h, p.0, y.put.len)

pub moved-to-requires : goal.moved-to-requires
moved-to-requires c = let a = c.args in
    let p = c.requires in
    let l = c.loop-s in
    let x = l.invariant.0 in let b = l.invariant.1 in
    let vl = a.values.now in let w = a.feed.now in
    let v = l.s.due in
    let h = c.loop-s-test.true in
    let e = val-ahead _ _ _ x (v * 2) (omega (arith, b.bound)) in
    let f = val-ahead _ _ _ x (v * 2 + 1) (omega (arith, b.bound)) in
    let i = p.1.inside v h in
    let old : c.size_of-old.result ≡ old_size vl v = c.size_of-old.ensures ∙ ap₂ (λ (y z : ℕ). z - y) e f in
    let b' = beside-pass vl w a.n b h old c.pass-s.ensures in
    let y = vals-to x _ v b.bound (omega arith) (λ j m z. value-moved vl w a.n p.1 p.2 b _ c.change-by.ensures j m z (omega arith)) (omega (arith, b.bound, h, p.0, x.put.len)) c.shift_values.ensures in
    let r : shrunk_to vl w (v + 1) ≡ shrunk_to vl w (suc v) = ap (shrunk_to vl w) (add-one v) in
    let f' = val-cell _ _ _ y 1 in
    (omega (arith, f', i), omega (arith, b'.grown, grown-up vl w (v + 1) a.n (omega arith), p.2), omega (arith, f', r, b'.shrunk, shrunk-end vl w a.n text_limit p.1 v h))

pub loop-s-smaller : goal.loop-s-smaller
loop-s-smaller c = omega (arith, c.loop-s-test.true, c.pass-s.ensures.2)

pub loop-s-preserved : goal.loop-s-preserved
loop-s-preserved c = let a = c.args in
    let p = c.requires in
    let l = c.loop-s in
    let x = l.invariant.0 in let b = l.invariant.1 in
    let vl = a.values.now in let w = a.feed.now in
    let v = l.s.due in
    let h = c.loop-s-test.true in
    let e = val-ahead _ _ _ x (v * 2) (omega (arith, b.bound)) in
    let f = val-ahead _ _ _ x (v * 2 + 1) (omega (arith, b.bound)) in
    let t = beside_at vl w a.n b v b.bound (omega arith) in
    let old : c.size_of-old.result ≡ old_size vl v = c.size_of-old.ensures ∙ ap₂ (λ (y z : ℕ). z - y) e f in
    let b' = beside-pass vl w a.n b h old c.pass-s.ensures in
    let y = vals-to x _ v b.bound (omega arith) (λ j m z. value-moved vl w a.n p.1 p.2 b _ c.change-by.ensures j m z (omega arith)) (omega (arith, b.bound, h, p.0, x.put.len)) c.shift_values.ensures in
    let g : grown_to vl w (v + 1) ≡ grown_to vl w (suc v) = ap (grown_to vl w) (add-one v) in
    let r : shrunk_to vl w (v + 1) ≡ shrunk_to vl w (suc v) = ap (shrunk_to vl w) (add-one v) in
    let f' = val-cell _ _ _ y 1 in (
      vals-more _ _ _ y h
          (omega (arith, c.moved-from.ensures, e, t.0, t.1))
          (omega (arith, c.moved-to.ensures, f', b'.grown, b'.shrunk, g, r))
          c.put.ensures,
      b',
    )

pub overflow_sub-n : goal.overflow_sub-n
overflow_sub-n c = omega (arith, c.loop-s.invariant.0.within)

pub shape_of-values : goal.shape_of-values
shape_of-values c = let a = c.args in
    let p = c.requires in
    let l = c.loop-s in
    let x = l.invariant.0 in let b = l.invariant.1 in
    let vl = a.values.now in let w = a.feed.now in
    let h = c.loop-s-test.false in
    let y = vals-to x _ a.n x.within (omega arith) (λ j k z. value-moved vl w a.n p.1 p.2 b _ c.change-by-2.ensures j k (omega (arith, h, z)) z) (omega (arith, x.within, p.0, x.put.len)) c.shift_values-2.ensures in
    y.put.len

pub returns : goal.returns
returns c = let a = c.args in
    let p = c.requires in
    let l = c.loop-s in
    let x = l.invariant.0 in let b = l.invariant.1 in
    let vl = a.values.now in let w = a.feed.now in
    let h = c.loop-s-test.false in
    let y = vals-to x _ a.n x.within (omega arith) (λ j k z. value-moved vl w a.n p.1 p.2 b _ c.change-by-2.ensures j k (omega (arith, h, z)) z) (omega (arith, x.within, p.0, x.put.len)) c.shift_values-2.ensures in
    vals-done _ _ _ y (omega arith)
