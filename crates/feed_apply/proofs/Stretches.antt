-- Rows between two corrected values move by one number. Assumes nothing.
use Rattle.lists.proofs.Prelude.{ℕ, zero, suc, ◌+◌, ◌-◌, ◌%◌, ◌^◌, ◌≤◌, ◌<◌, ◌≡◌, ◌*◌, ap, ap₂, ◌∙◌, subst, arith, List}
use Rattle.lists.proofs.Tests.{same_or}
use Rattle.tables.specs.Columns.{name_from_at, name_to_at, first_val_at, val_count_at, val_from_at, val_to_at}
use Rattle.tables.specs.Numbers.{text_limit}
use Rattle.lists.specs.Put.{put_at}
use Rattle.tables.specs.Each.{tabulate}
use Rattle.tables.specs.Flat.{flat_vals}
use Rattle.tables.specs.Rows.{PropRow, ValRow}
use Rattle.edit_rows.specs.LocalsShift.{prop_added, val_added}
use Rattle.edit_rows.proofs.Rows.{ValsPut, vals-shift}
use Rattle.edit_rows.proofs.Shifting.{added-change}
use Rattle.feed_apply.specs.LocalsAlong.{Uncorrected}
use Rattle.feed_apply.specs.LocalsSizes.{grown_to, shrunk_to, moved_val, moved_prop, Spread, NamesStand, Tallied}
use Rattle.feed_apply.specs.declared.along.Along.{Along}
use Rattle.feed_apply.proofs.Sizes.{Beside, beside_at, tallied-at, grown-up, spanned-none, shrunk-spanned, shrunk-start, shrunk-end}

abbrev spanned : (first count from to : ℕ) → PropRow
spanned first count from to = record { from = from; to = to; first = first; count = count }

abbrev lying : (from to : ℕ) → ValRow
lying from to = record { from = from; to = to }

module _ (pr vl w : List ℕ) (P n : ℕ) (x : NamesStand pr vl P n text_limit) (g : grown_to vl w n ≤ text_limit) where
  -- first values rise
  pub rises : (k j : ℕ) → k ≤ j → j < P → first_val_at pr k ≤ first_val_at pr j
  rises k zero a b = let e : k ≡ 0 = omega arith in omega (arith, ap (first_val_at pr) e)
  rises k (suc j) a b =
      same_or k (suc j) (λ e. omega (arith, ap (first_val_at pr) e)) (λ e. omega (arith, rises k j (omega arith) (omega arith), x.rising j b))

  pub name-moved : {s : Along} → Tallied vl w n s → (by : ℕ) → (by + s.shrunk) % 2 ^ 32 ≡ s.grown % 2 ^ 32
      → (j : ℕ) → j < P → first_val_at pr j ≤ s.due → Uncorrected w (first_val_at pr j) s.due → prop_added by pr j ≡ moved_prop pr vl w j
  name-moved {s} y by h j l b u =
      let t = tallied-at vl w n (first_val_at pr j) y b u in
      let c = shrunk-spanned vl w (first_val_at pr j) in
      let d = grown-up vl w (first_val_at pr j) n (x.here j l) in
      let move : (q : ℕ) → name_from_at pr j ≤ q → q ≤ name_to_at pr j → (q + by) % 2 ^ 32 ≡ q + grown_to vl w (first_val_at pr j) - shrunk_to vl w (first_val_at pr j) =
      λ q a z. added-change by s.grown s.shrunk q h (omega (arith, t.1, c, x.behind j l)) (omega (arith, t.0, t.1, d, g, x.inside j l, c, x.behind j l)) ∙ ap₂ (λ (i o : ℕ). q + i - o) t.0 t.1 in
      ap₂ (spanned (first_val_at pr j) (val_count_at pr j))
      (move (name_from_at pr j) (omega arith) (x.order j l))
      (move (name_to_at pr j) (x.order j l) (omega arith))

module _ (vl w : List ℕ) (n : ℕ) (x : Spread vl n text_limit) (g : grown_to vl w n ≤ text_limit) where
  pub shrunk-all : (k : ℕ) → k ≤ n → shrunk_to vl w k ≤ text_limit
  shrunk-all zero h = omega (arith, shrunk-spanned vl w 0, spanned-none vl w)
  shrunk-all (suc k) h = omega (arith, shrunk-end vl w n text_limit x k (omega arith), x.inside k (omega arith))

  pub value-moved : {k : ℕ} {s : Along} → Beside vl w n k s → (by : ℕ) → (by + s.shrunk) % 2 ^ 32 ≡ s.grown % 2 ^ 32
      → (j : ℕ) → k ≤ j → j < s.due → j < n → val_added by vl j ≡ moved_val vl w j
  value-moved {k} {s} y by h j a b l =
      let t = beside_at vl w n y j a (omega arith) in
      let u = beside_at vl w n y (suc j) (omega arith) b in
      let d = grown-up vl w j n (omega arith) in
      let c = shrunk-start vl w n text_limit x j l in
      let o = x.order j l in
      let i = x.inside j l in
      ap₂ lying
      (added-change by s.grown s.shrunk (val_from_at vl j) h (omega (arith, t.1, c)) (omega (arith, t.0, t.1, d, g, c, o, i)) ∙ ap₂ (λ (i o : ℕ). val_from_at vl j + i - o) t.0 t.1)
      (added-change by s.grown s.shrunk (val_to_at vl j) h (omega (arith, t.1, c, o)) (omega (arith, t.0, t.1, d, g, c, o, i)) ∙ ap₂ (λ (i o : ℕ). val_to_at vl j + i - o) u.0 u.1)

-- ---- rows put up to a later one

module _ {R : ℕ → ValRow} {vl : List ℕ} {n : ℕ} {t : List ℕ} {k : ℕ} (x : ValsPut R vl n t k) where
  pub vals-to : (by v : ℕ) → k ≤ v → v ≤ n → ((j : ℕ) → k ≤ j → j < v → val_added by vl j ≡ R j)
      → {t' : List ℕ} {c : ℕ} → c ≡ v - k → t' ≡ put_at t (k * 2) (flat_vals (tabulate (val_added by t) k c)) → ValsPut R vl n t' v
  vals-to by v a b s {t'} ec e =
      let q : k + (v - k) ≡ v = omega arith in
      subst (λ (z : ℕ). ValsPut R vl n t' z) q (vals-shift R vl n x by (v - k) (omega arith) (λ j c d. s j c (omega arith)) ec e)
