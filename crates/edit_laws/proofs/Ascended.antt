-- Spans that ascend ascend still once they are moved; and the ranges of moved rows are the ranges of the rows. Assumes nothing.
use Rattle.lists.proofs.Prelude.{ℕ, zero, suc, ◌+◌, ◌-◌, ◌≤◌, ◌<◌, Bool, true, ◌&&◌, List, [], ◌∷◌, ◌++◌, map, map-append, ◌⊎◌, inl, inr, ◌≡◌, refl, sym, ap, ap₂, ◌∙◌, subst, arith, leb, eqb}
use Rattle.lists.specs.All.{All}
use Rattle.lists.proofs.All.{all_append}
use Rattle.lexer.specs.Move.{starts_at, ends_at}
use Rattle.lexer_laws.proofs.Replace.{starts-low, starts-high, ends_low, ends-high}
use Rattle.tables.specs.Move.{move_props, move_vals}
use Rattle.tables.specs.Rows.{PropRow, ValRow}
use Rattle.tables.specs.Columns.{name_from_at, name_to_at, first_val_at, val_count_at}
use Rattle.tables.specs.Each.{each, sum, tabulate}
use Rattle.fit_spans.specs.Ranges.{gapless, has_value}
use Rattle.fit.specs.Record.{prop_row, val_row}
use Rattle.fit_spans.specs.Spans.{Span, span, val_span, prop_spans, spans, ascending}
use Rattle.edit.proofs.Apart.{First, first-is, is-first}

module _ (used q e m : ℕ) (qe : q ≤ e) (eu : e ≤ used) where
  abbrev pub moved : Span → Span
  moved s = span (starts_at q e m s.from) (ends_at q e m s.to)

  -- a span lies apart from the value, or is it
  abbrev pub Apart : Span → Type 0
  Apart s = ((s.to < q) ⊎ (e < s.from)) ⊎ ((s.from ≡ q) × (s.to ≡ e))

  abbrev Side : ℕ → Type 0
  Side o = (o ≤ q) ⊎ (e < o)

  start-low : (o a : ℕ) → Side o → o ≤ a → e < a → starts_at q e m o ≤ q + m + (a - e)
  start-low o a (inl s) l h = omega (arith, starts-low q e m o s)
  start-low o a (inr s) l h = omega (arith, starts-high q e m o (omega arith))

  step : (o : ℕ) (s : Span) (ss : List Span) → Side o → First used o s ss → Apart s
      → (starts_at q e m o ≤ starts_at q e m s.from) × (starts_at q e m s.from ≤ ends_at q e m s.to) × (ends_at q e m s.to ≤ q + m + (used - e)) × (suc (ends_at q e m s.to) ≡ starts_at q e m (suc s.to)) × Side (suc s.to)
  step o s ss d x (inl (inl h)) =
      let l = x.low in
      let r = x.order in
      let a = starts-low q e m s.from (omega arith) in
      let b = ends_low q e m s.to (omega arith) in
      let c = starts-low q e m o (omega arith) in
      let n = starts-low q e m (suc s.to) h in
      (omega arith, omega arith, omega arith, omega arith, inl h)
  step o s ss d x (inl (inr h)) =
      let l = x.low in
      let r = x.order in
      let i = x.inside in
      let a = starts-high q e m s.from (omega arith) in
      let b = ends-high q e m s.to (omega arith) in
      let c = start-low o s.from d l h in
      let n = starts-high q e m (suc s.to) (omega arith) in
      (omega arith, omega arith, omega arith, omega arith, inr (omega arith))
  step o s ss d x (inr h) =
      let l = x.low in
      let h0 = h.0 in
      let h1 = h.1 in
      let a = starts-low q e m s.from (omega arith) in
      let b = ends-high q e m s.to (omega arith) in
      let c = starts-low q e m o (omega arith) in
      let n = starts-high q e m (suc s.to) (omega arith) in
      (omega arith, omega arith, omega arith, omega arith, inr (omega arith))

  pub moved-ascend : (o : ℕ) (ss : List Span) → Side o → ascending used o ss ≡ true → All Apart ss → ascending (q + m + (used - e)) (starts_at q e m o) (map moved ss) ≡ true
  unfolding ascending
  moved-ascend o [] d h a = refl
  moved-ascend o (s ∷ ss) d h a =
      let x = first-is used o s ss h in
      let y = step o s ss d x a.0 in
      is-first (q + m + (used - e)) (starts_at q e m o) (moved s) (map moved ss)
      (record {
        low = y.0;
        order = y.1;
        inside = y.2;
        rest = subst (λ (z : ℕ). ascending (q + m + (used - e)) z (map moved ss) ≡ true) (sym y.3) (moved-ascend (suc s.to) ss y.4 x.rest a.1);
      })

-- ---- rows moved

module _ (f g : ℕ → ℕ) (pr vl pr' vl' : List ℕ) (n total : ℕ)
    (props : (p : ℕ) → p < n → prop_row pr' p ≡ move_props f g (prop_row pr p))
    (vals : (j : ℕ) → j < total → val_row vl' j ≡ move_vals f g (val_row vl j)) where
  abbrev pub shift : Span → Span
  shift s = span (f s.from) (g s.to)

  pub first-same : (p : ℕ) → p < n → first_val_at pr' p ≡ first_val_at pr p
  first-same p h = ap (λ (r : PropRow). r.first) (props p h)

  pub count_same : (p : ℕ) → p < n → val_count_at pr' p ≡ val_count_at pr p
  count_same p h = ap (λ (r : PropRow). r.count) (props p h)

  run_moved : (m v : ℕ) → v + m ≤ total → tabulate (val_span vl') v m ≡ map shift (tabulate (val_span vl) v m)
  unfolding tabulate
  run_moved zero v h = refl
  run_moved (suc m) v h = ap₂ (λ (s : Span) (ss : List Span). s ∷ ss) (ap (λ (r : ValRow). span r.from r.to) (vals v (omega arith))) (run_moved m (suc v) (omega arith))

  pub spans-moved : ((p : ℕ) → p < n → first_val_at pr p + val_count_at pr p ≤ total) → (m p : ℕ) → p + m ≤ n → spans pr' vl' p m ≡ map shift (spans pr vl p m)
  unfolding spans
  spans-moved inside zero p h = refl
  spans-moved inside (suc m) p h =
      let l : p < n = omega arith in
      ap₂ (λ (xs ys : List Span). xs ++ ys)
      (ap₂ (λ (s : Span) (ss : List Span). s ∷ ss) (ap (λ (r : PropRow). span r.from r.to) (props p l))
      (ap₂ (λ (v c : ℕ). tabulate (val_span vl') v c) (first-same p l) (count_same p l) ∙ run_moved (val_count_at pr p) (first_val_at pr p) (inside p l)))
      (spans-moved inside m (suc p) (omega arith))
      ∙ sym (map-append shift (prop_spans pr vl p) (spans pr vl (suc p) m))

-- ---- facts of every span

module _ (P : Span → Type 0) (pr vl : List ℕ) where
  all-run : (m v : ℕ) → ((j : ℕ) → v ≤ j → j < v + m → P (val_span vl j)) → All P (tabulate (val_span vl) v m)
  unfolding tabulate
  all-run zero v h = tt
  all-run (suc m) v h = (h v (omega arith) (omega arith), all-run m (suc v) (λ j a b. h j (omega arith) (omega arith)))

  pub all-spans : (m p : ℕ) → ((i : ℕ) → p ≤ i → i < p + m → P (span (name_from_at pr i) (name_to_at pr i)))
      → ((i j : ℕ) → p ≤ i → i < p + m → first_val_at pr i ≤ j → j < first_val_at pr i + val_count_at pr i → P (val_span vl j)) → All P (spans pr vl p m)
  unfolding spans
  all-spans zero p a b = tt
  all-spans (suc m) p a b =
      all_append P (prop_spans pr vl p) (spans pr vl (suc p) m)
      (a p (omega arith) (omega arith), all-run (val_count_at pr p) (first_val_at pr p) (λ j x y. b p j (omega arith) (omega arith) x y))
      (all-spans m (suc p) (λ i x y. a i (omega arith) (omega arith)) (λ i j x y. b i j (omega arith) (omega arith)))

-- ---- ranges

each_same : (f g : ℕ → Bool) (n : ℕ) → ((k : ℕ) → k < n → f k ≡ g k) → each n f ≡ each n g
unfolding each
each_same f g zero h = refl
each_same f g (suc n) h = ap₂ (λ (x y : Bool). x && y) (each_same f g n (λ k l. h k (omega arith))) (h n (omega arith))

sum_same : (f g : ℕ → ℕ) (n : ℕ) → ((k : ℕ) → k < n → f k ≡ g k) → sum f n ≡ sum g n
unfolding sum
sum_same f g zero h = refl
sum_same f g (suc n) h = ap₂ (λ (x y : ℕ). x + y) (sum_same f g n (λ k l. h k (omega arith))) (h n (omega arith))

module _ (pr pr' : List ℕ) (n : ℕ) (first : (p : ℕ) → p < n → first_val_at pr' p ≡ first_val_at pr p) (count : (p : ℕ) → p < n → val_count_at pr' p ≡ val_count_at pr p) where
  pub ranges-same : (total : ℕ) → gapless (first_val_at pr') (val_count_at pr') n total ≡ gapless (first_val_at pr) (val_count_at pr) n total
  ranges-same total =
      ap₂ (λ (x : Bool) (z : ℕ). x && eqb z total)
      (each_same (λ k. eqb (first_val_at pr' k) (sum (val_count_at pr') k)) (λ k. eqb (first_val_at pr k) (sum (val_count_at pr) k)) n
      (λ k l. ap₂ eqb (first k l) (sum_same (val_count_at pr') (val_count_at pr) k (λ i h. count i (omega arith)))))
      (sum_same (val_count_at pr') (val_count_at pr) n count)

  pub have-same : each n (has_value pr') ≡ each n (has_value pr)
  have-same = each_same (has_value pr') (has_value pr) n (λ k l. ap (λ (z : ℕ). leb 1 z) (count k l))
