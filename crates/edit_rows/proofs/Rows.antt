-- The first rows of a table put, one by one or a stretch at a time. Assumes nothing.
use Rattle.lists.proofs.Prelude.{ℕ, zero, suc, add-one, ◌+◌, ◌*◌, ◌/◌, ◌≤◌, ◌<◌, List, [], ◌∷◌, ◌++◌, ◌≡◌, refl, sym, ap, ◌∙◌, subst, arith, length, get_or}
use Rattle.lists.specs.Put.{PutIs, PutWhole}
use Rattle.lists.proofs.Put.{put-none, put-more, put_all}
use Rattle.tables.specs.Columns.{val_from_at, val_to_at}
use Rattle.tables.specs.Flat.{flat_props, flat_vals, over}
use Rattle.tables.specs.Rows.{PropRow, ValRow}
use Rattle.tables.specs.Each.{tabulate}
use Rattle.edit_rows.specs.LocalsShift.{prop_added, val_added, names_shifted}
use Rattle.lists.specs.Put.{put_at}
use Rattle.edit_rows.proofs.Putting.{tabulate-ext, length-props-run, length-vals-run, props-join, vals-join, ahead, put_is, put-keep}

-- value k's row
abbrev pub val_row_at : List ℕ → ℕ → ValRow
val_row_at vl k = record { from = val_from_at vl k; to = val_to_at vl k }

-- ---- the first k of n property rows are put

module _ (R : ℕ → PropRow) (pr : List ℕ) (n : ℕ) where
  abbrev props_to : ℕ → List ℕ
  props_to k = flat_props (tabulate R 0 k)

  pub record PropsPut (t : List ℕ) (k : ℕ) : Type 0 where
    pub room : n ≤ length pr / 4
    pub within : k ≤ n
    pub put : PutIs pr 0 (props_to k) t

  pub props-none : n ≤ length pr / 4 → PropsPut pr 0
  unfolding tabulate
  props-none h = record { room = h; within = omega arith; put = put-none pr 0 }

  module _ {t : List ℕ} {k : ℕ} (x : PropsPut t k) where
    -- rows that are not put yet are as they were
    pub prop-ahead : (i : ℕ) → k * 4 ≤ i → get_or t i 0 ≡ get_or pr i 0
    prop-ahead i h = let r = x.room in let w = x.within in let l = length-props-run R 0 k in ahead x.put (omega arith) i (omega arith)

    pub prop-cell : (c : ℕ) → get_or t (k * 4 + c) 0 ≡ get_or pr (k * 4 + c) 0
    prop-cell c = prop-ahead (k * 4 + c) (omega arith)

    pub prop-added : (by j : ℕ) → k ≤ j → prop_added by t j ≡ prop_added by pr j
    prop-added by j h =
        rw (prop-ahead (j * 4) (omega arith), prop-ahead (j * 4 + 1) (omega arith), prop-ahead (j * 4 + 2) (omega arith), prop-ahead (j * 4 + 3) (omega arith))

    props-run : (m : ℕ) → k + m ≤ n → {t' : List ℕ} → PutIs t (k * 4) (flat_props (tabulate R k m)) t' → PropsPut t' (k + m)
    props-run m h {t'} p =
        let l = length-props-run R 0 k in
        let e : 0 + k ≡ k = omega arith in
        let g : props_to (k + m) ≡ props_to k ++ flat_props (tabulate R k m) = props-join R 0 k m ∙ ap (λ (z : ℕ). props_to k ++ flat_props (tabulate R z m)) e in
        record { room = x.room; within = h; put = rw g (put-more x.put p (omega arith)) }

    -- m rows that are shifted as the rows to be put are
    pub props-shift : (by m : ℕ) → k + m ≤ n → ((j : ℕ) → k ≤ j → j < k + m → prop_added by pr j ≡ R j) → {t' : List ℕ} → t' ≡ names_shifted by k m t → PropsPut t' (k + m)
    props-shift by m h s {t'} e =
        let r = x.room in
        let l = length-props-run R k m in
        let tl = x.put.len in
        let g : tabulate (prop_added by t) k m ≡ tabulate R k m = tabulate-ext (prop_added by t) R k m (λ j a b. prop-added by j a ∙ s j a b) in
        props-run m h (put_is (omega arith) (e ∙ ap (λ (z : List PropRow). put_at t (k * 4) (flat_props z)) g))

    pub props-done : n ≤ k → t ≡ over (props_to n) pr
    props-done h =
        let w = x.within in
        let r = x.room in
        let l = length-props-run R 0 k in
        let e : k ≡ n = omega arith in
        put_all x.put (omega arith) ∙ ap (λ (z : ℕ). over (props_to z) pr) e

-- ---- the first k of n value rows are put

module _ (R : ℕ → ValRow) (vl : List ℕ) (n : ℕ) where
  abbrev vals_to : ℕ → List ℕ
  vals_to k = flat_vals (tabulate R 0 k)

  pub record ValsPut (t : List ℕ) (k : ℕ) : Type 0 where
    pub room : n ≤ length vl / 2
    pub within : k ≤ n
    pub put : PutIs vl 0 (vals_to k) t

  pub vals-none : n ≤ length vl / 2 → ValsPut vl 0
  unfolding tabulate
  vals-none h = record { room = h; within = omega arith; put = put-none vl 0 }

  module _ {t : List ℕ} {k : ℕ} (x : ValsPut t k) where
    pub val-ahead : (i : ℕ) → k * 2 ≤ i → get_or t i 0 ≡ get_or vl i 0
    val-ahead i h = let r = x.room in let w = x.within in let l = length-vals-run R 0 k in ahead x.put (omega arith) i (omega arith)

    pub val-cell : (c : ℕ) → get_or t (k * 2 + c) 0 ≡ get_or vl (k * 2 + c) 0
    val-cell c = val-ahead (k * 2 + c) (omega arith)

    pub val-from : get_or t (k * 2) 0 ≡ get_or vl (k * 2) 0
    val-from = val-ahead (k * 2) (omega arith)

    pub val-added : (by j : ℕ) → k ≤ j → val_added by t j ≡ val_added by vl j
    val-added by j h = rw (val-ahead (j * 2) (omega arith), val-ahead (j * 2 + 1) (omega arith))

    vals-run : (m : ℕ) → k + m ≤ n → {t' : List ℕ} → PutIs t (k * 2) (flat_vals (tabulate R k m)) t' → ValsPut t' (k + m)
    vals-run m h {t'} p =
        let l = length-vals-run R 0 k in
        let e : 0 + k ≡ k = omega arith in
        let g : vals_to (k + m) ≡ vals_to k ++ flat_vals (tabulate R k m) = vals-join R 0 k m ∙ ap (λ (z : ℕ). vals_to k ++ flat_vals (tabulate R z m)) e in
        record { room = x.room; within = h; put = rw g (put-more x.put p (omega arith)) }

    -- m rows that are shifted as the rows to be put are
    pub vals-shift : (by m : ℕ) → k + m ≤ n → ((j : ℕ) → k ≤ j → j < k + m → val_added by vl j ≡ R j)
        → {t' : List ℕ} {c : ℕ} → c ≡ m → t' ≡ put_at t (k * 2) (flat_vals (tabulate (val_added by t) k c)) → ValsPut t' (k + m)
    vals-shift by m h s {t'} {c} ec e =
        let r = x.room in
        let l = length-vals-run R k m in
        let tl = x.put.len in
        let g : tabulate (val_added by t) k c ≡ tabulate R k m = ap (tabulate (val_added by t) k) ec ∙ tabulate-ext (val_added by t) R k m (λ j a b. val-added by j a ∙ s j a b) in
        vals-run m h (put_is (omega arith) (e ∙ ap (λ (z : List ValRow). put_at t (k * 2) (flat_vals z)) g))

    -- one row
    pub vals-more : k < n → {a b : ℕ} → a ≡ (R k).from → b ≡ (R k).to → {t' : List ℕ} → PutWhole t (k * 2) (a ∷ b ∷ []) t' → ValsPut t' (k + 1)
    unfolding tabulate
    vals-more h ea eb {t'} p =
        let i : PutIs t (k * 2) (flat_vals (R k ∷ [])) t' = rw (← ea, ← eb) p.is in
        vals-run 1 (omega arith) i

    -- one row that stays
    vals-keep : k < n → R k ≡ val_row_at vl k → t ≡ vl → ValsPut t (k + 1)
    unfolding tabulate
    vals-keep h e z =
        let r = x.room in
        let y : k * 2 + 0 ≡ k * 2 = omega arith in
        let p : PutIs vl (k * 2) (get_or vl (k * 2 + 0) 0 ∷ []) vl = put-keep (put-none vl (k * 2)) (omega arith) in
        let q : PutIs vl (k * 2) (get_or vl (k * 2 + 0) 0 ∷ get_or vl (k * 2 + 1) 0 ∷ []) vl = put-keep p (omega arith) in
        let i : PutIs vl (k * 2) (flat_vals (R k ∷ [])) vl = subst (λ (w : ValRow). PutIs vl (k * 2) (flat_vals (w ∷ [])) vl) (sym e) (subst (λ (w : ℕ). PutIs vl (k * 2) (get_or vl w 0 ∷ get_or vl (k * 2 + 1) 0 ∷ []) vl) y q) in
        vals-run 1 (omega arith) (subst (λ (w : List ℕ). PutIs w (k * 2) (flat_vals (R k ∷ [])) w) (sym z) i)

    pub vals-done : n ≤ k → t ≡ over (vals_to n) vl
    vals-done h =
        let w = x.within in
        let r = x.room in
        let l = length-vals-run R 0 k in
        let e : k ≡ n = omega arith in
        put_all x.put (omega arith) ∙ ap (λ (z : ℕ). over (vals_to z) vl) e

  -- the first rows, where they stay
  pub vals-same : n ≤ length vl / 2 → (k : ℕ) → k ≤ n → ((j : ℕ) → j < k → R j ≡ val_row_at vl j) → ValsPut vl k
  vals-same r zero h s = vals-none r
  vals-same r (suc k) h s = subst (λ (z : ℕ). ValsPut vl z) (add-one k) (vals-keep (vals-same r k (omega arith) (λ j l. s j (omega arith))) (omega arith) (s k (omega arith)) refl)
