-- In lent memory whose tables fit: other bytes for a value are the edit of that value, and its own bytes give text and rows themselves. Assumes nothing.
use Rattle.lists.proofs.Prelude.{ℕ, zero, suc, ◌+◌, ◌-◌, ◌≤◌, ◌<◌, true, ◌≡◌, refl, sym, ap, ap₂, ◌∙◌, subst, arith, List, [], ◌∷◌, ◌++◌, append_assoc, map, length, drop, get_or, slice, take_at, drop_at, length-append, length-take-le, length-slice, leb-true}
use Rattle.lists.specs.All.{All}
use Rattle.tables.specs.Columns.{first_val_at, val_count_at, val_from_at, val_to_at}
use Rattle.tables.specs.Each.{sum, tabulate}
use Rattle.tables.specs.Memory.{Memory}
use Rattle.tables.specs.Rows.{PropRow, ValRow}
use Rattle.tables.proofs.Each.{each_at}
use Rattle.fit.specs.Fit.{Fit}
use Rattle.fit.specs.Record.{prop_row, val_row, rows_in, text_in}
use Rattle.fit.proofs.Clauses.{Clauses, fit-clauses, fit-names, fit-vals}
use Rattle.fit.proofs.Whole.{fit-lent}
use Rattle.fit.proofs.Parts.{tabulate-length, tabulate-at}
use Rattle.fit_spans.specs.Ranges.{has_value}
use Rattle.fit_spans.proofs.Ranges.{gapless-first, gapless-sum, gapless-in}
use Rattle.edit_splice.specs.Splice.{pasted}
use Rattle.edit_answer.specs.Edit.{span_at, shifted}
use Rattle.feed_laid.specs.Laid.{with, shift, laid_val, laid_prop}
use Rattle.feed_laid.specs.OfMemory.{laid_text, laid_tables, own_bytes}
use Rattle.edit.proofs.Rising.{Rise, rises}
use Rattle.feed_laid.proofs.Places.{sum-none, sum_more, old-low, old-in, value-size}
use Rattle.feed_laid.proofs.Lengths.{Chain, from_of, to_of, before-shift, laid-own}
use Rattle.feed_laid.proofs.Texts.{before, behind, laid-split, laid-pasted}
use Rattle.feed_laid.proofs.Edited.{Named, laid-shifted, tabulate-ext}

module _ (m : Memory) (fit : Fit m ≡ true) where
  abbrev a : ℕ → ℕ
  a = val_from_at m.values

  abbrev e : ℕ → ℕ
  e = val_to_at m.values

  abbrev n : ℕ
  n = m.counts.values

  abbrev P : ℕ
  P = m.counts.properties

  abbrev pr : List ℕ
  pr = m.properties

  F : Clauses (text_in m) m.counts m.trees m.nodes m.properties m.values
  F = fit-clauses m fit

  up-all : sum (val_count_at pr) (0 + P) ≡ n
  up-all = let z : 0 + P ≡ P = omega arith in ap (sum (val_count_at pr)) z ∙ gapless-sum (first_val_at pr) (val_count_at pr) P n F.prop-ranges

  rise : Rise pr m.values (length (text_in m)) 0 P
  rise =
      rises pr m.values (length (text_in m)) P 0 0 (λ i _ l. gapless-first (first_val_at pr) (val_count_at pr) P n F.prop-ranges i (omega arith))
      (λ i _ l. leb-true 1 (val_count_at pr i) (each_at (has_value pr) P i F.have-values (omega arith))) F.ascend

  pub order : (j : ℕ) → j < n → a j ≤ e j
  order j l = (fit-vals m fit j l).0

  pub inside : (j : ℕ) → j < n → e j ≤ length (text_in m)
  inside j l = omega (arith, (fit-vals m fit j l).1, length-take-le m.used m.text (fit-lent m fit).0)

  pub apart : (j : ℕ) → suc j < n → e j < a (suc j)
  apart j l = rise.values j (omega (arith, sum-none (val_count_at pr))) (omega (arith, up-all, l))

  pub named : (p : ℕ) → p < P → Named a e n (prop_row pr p)
  named p l =
      let c = leb-true 1 (val_count_at pr p) (each_at (has_value pr) P p F.have-values l) in
      record {
        order = (fit-names m fit p l).0;
        here = omega (arith, gapless-in (first_val_at pr) (val_count_at pr) P n F.prop-ranges p l, c);
        before = rise.before p (omega arith) (omega arith);
        behind = λ i h. rise.behind p i (omega arith) (omega arith) h (omega (arith, sum-none (val_count_at pr)));
      }

  pub all_named : (k i : ℕ) → k + i ≤ P → All (Named a e n) (tabulate (prop_row pr) k i)
  unfolding tabulate
  all_named k zero h = tt
  all_named k (suc i) h = (named k (omega arith), all_named (suc k) i (omega arith))

  -- ---- the values one behind the other

  chain-from : (i k o : ℕ) → k + i ≡ n → ((j : ℕ) → k ≡ j → j < n → o ≤ a j) → o ≤ length (text_in m) → Chain (length (text_in m)) o (tabulate (val_row m.values) k i)
  unfolding tabulate
  chain-from zero k o h g l = l
  chain-from (suc i) k o h g l =
      let b : k < n = omega arith in
      (g k refl b, order k b, inside k b, chain-from i (suc k) (e k) (omega arith) (λ j q s. subst (λ (z : ℕ). e k ≤ a z) q (omega (arith, apart k (omega (arith, q, s))))) (inside k b))

  pub chain : Chain (length (text_in m)) 0 (rows_in m).vals
  chain = chain-from n 0 0 (omega arith) (λ j _ _. omega arith) (omega arith)

  pub count : length (rows_in m).vals ≡ n
  count = tabulate-length (val_row m.values) 0 n

  row_at : (j : ℕ) → j < n → get_or (rows_in m).vals j (record { from = 0; to = 0 }) ≡ val_row m.values j
  row_at j l = let z : 0 + j ≡ j = omega arith in tabulate-at (val_row m.values) 0 n j (record { from = 0; to = 0 }) l ∙ ap (val_row m.values) z

  pub from_at : (j : ℕ) → j < n → from_of (rows_in m).vals j ≡ a j
  from_at j l = ap (λ (z : ValRow). z.from) (row_at j l)

  pub to_at : (j : ℕ) → j < n → to_of (rows_in m).vals j ≡ e j
  to_at j l = ap (λ (z : ValRow). z.to) (row_at j l)

  pub sums_at : (k : ℕ) → k ≤ n → sum (λ j. to_of (rows_in m).vals j - from_of (rows_in m).vals j) k ≡ sum (λ j. e j - a j) k
  sums_at zero h = sum-none (λ j. to_of (rows_in m).vals j - from_of (rows_in m).vals j) ∙ sym (sum-none (λ j. e j - a j))
  sums_at (suc k) h =
      sum_more (λ j. to_of (rows_in m).vals j - from_of (rows_in m).vals j) k
      ∙ ap₂ (λ (x y : ℕ). x + y) (sums_at k (omega arith)) (ap₂ (λ (x y : ℕ). x - y) (to_at k (omega arith)) (from_at k (omega arith)))
      ∙ sym (sum_more (λ j. e j - a j) k)

  module _ (f : ℕ → List ℕ) (k : ℕ) (below : k < n) where
    abbrev q : ℕ
    q = shift a e f k (a k)

    abbrev E : ℕ
    E = shift a e f (suc k) (e k)

    pub span : span_at (laid_tables m f).vals k ≡ laid_val a e f k
    span = let z : 0 + k ≡ k = omega arith in tabulate-at (laid_val a e f) 0 n k (record { from = 0; to = 0 }) below ∙ ap (laid_val a e f) z

    place_is : shift (from_of (rows_in m).vals) (to_of (rows_in m).vals) f k (from_of (rows_in m).vals k) ≡ q
    unfolding shift
    place_is = ap₂ (λ (x y : ℕ). x - y + sum (λ j. length (f j)) k) (from_at k below) (sums_at k (omega arith))

    pub ahead : length (before (text_in m) f 0 0 k (rows_in m).vals) ≡ q
    ahead =
        before-shift (text_in m) f (rows_in m).vals k chain (omega (arith, count, below)) (omega (arith, sums_at k (omega arith), from_at k below, old-low a e n order apart k below)) ∙ place_is

    -- the bytes of value k are those that it was given
    pub value-laid : slice (span_at (laid_tables m f).vals k).from (span_at (laid_tables m f).vals k).to (laid_text m f) ≡ f k
    value-laid =
        let x = before (text_in m) f 0 0 k (rows_in m).vals in
        let y = behind (text_in m) f 0 k (rows_in m).vals in
        let z : 0 + k ≡ k = omega arith in
        let s : laid_text m f ≡ x ++ (f k ++ y) = laid-split (text_in m) f 0 0 k (rows_in m).vals (omega (arith, count, below)) ∙ ap (λ (i : ℕ). x ++ (f i ++ y)) z in
        let w : length (x ++ f k) ≡ E = length-append x (f k) ∙ omega (arith, ahead, value-size a e n order apart f k below) in
        ap (λ (v : ValRow). slice v.from v.to (laid_text m f)) span
        ∙ ap (slice q E) (s ∙ sym (append_assoc x (f k) y))
        ∙ ap (drop q) (take_at (x ++ f k) y E w)
        ∙ drop_at x (f k) q ahead

    -- the bytes of value k replaced, as the edit replaces them
    pub text-edited : (new : List ℕ) → pasted (laid_text m f) (span_at (laid_tables m f).vals k).from (span_at (laid_tables m f).vals k).to new ≡ laid_text m (with f k new)
    text-edited new =
        ap (λ (z : ValRow). pasted (laid_text m f) z.from z.to new) span
        ∙ laid-pasted (text_in m) f k new (rows_in m).vals (omega (arith, count, below)) q E
        ahead
        (sym (value-size a e n order apart f k below))

    -- and the rows moved, as it moves them
    pub rows-edited : (new : List ℕ) → shifted (laid_tables m f) (span_at (laid_tables m f).vals k) (length new) ≡ laid_tables m (with f k new)
    rows-edited new =
        ap (λ (z : ValRow). shifted (laid_tables m f) z (length new)) span
        ∙ laid-shifted a e n order apart f k below new (rows_in m) (all_named 0 P (omega arith))

  -- ---- the values' own bytes

  pub own-text : laid_text m (own_bytes m) ≡ text_in m
  own-text =
      laid-own (text_in m) (own_bytes m) (rows_in m).vals 0 0 chain
      (λ j l. let z : 0 + j ≡ j = omega arith in
      ap (own_bytes m) z ∙ ap₂ (λ (x y : ℕ). slice x y (text_in m)) (sym (from_at j (omega (arith, count, l)))) (sym (to_at j (omega (arith, count, l)))))

  own-sums : (k : ℕ) → k ≤ n → sum (λ j. length (own_bytes m j)) k ≡ sum (λ j. e j - a j) k
  own-sums zero h = sum-none (λ j. length (own_bytes m j)) ∙ sym (sum-none (λ j. e j - a j))
  own-sums (suc k) h =
      sum_more (λ j. length (own_bytes m j)) k
      ∙ ap₂ (λ (x y : ℕ). x + y) (own-sums k (omega arith)) (length-slice (a k) (e k) (text_in m) (inside k (omega arith)))
      ∙ sym (sum_more (λ j. e j - a j) k)

  own-place : (k p : ℕ) → k ≤ n → sum (λ j. e j - a j) k ≤ p → shift a e (own_bytes m) k p ≡ p
  unfolding shift
  own-place k p h l = omega (arith, own-sums k h, l)

  own_val : (j : ℕ) → j < n → laid_val a e (own_bytes m) j ≡ val_row m.values j
  own_val j l =
      ap₂ (λ (x y : ℕ). record { from = x; to = y }) (own-place j (a j) (omega arith) (old-low a e n order apart j l)) (own-place (suc j) (e j) (omega arith) (old-in a e n order apart j l))

  own_prop : (r : PropRow) → Named a e n r → laid_prop a e (own_bytes m) r ≡ r
  own_prop r h = go r.first refl
    where
      low : (i : ℕ) → r.first ≡ i → sum (λ j. e j - a j) i ≤ r.from
      low zero z = omega (arith, sum-none (λ j. e j - a j))
      low (suc i) z = omega (arith, old-in a e n order apart i (omega (arith, h.here, z)), h.behind i z)

      go : (i : ℕ) → r.first ≡ i → laid_prop a e (own_bytes m) r ≡ r
      go i z =
          let s = low r.first refl in
          ap₂ (λ (x y : ℕ). record { from = x; to = y; first = r.first; count = r.count }) (own-place r.first r.from (omega (arith, h.here)) s)
          (own-place r.first r.to (omega (arith, h.here)) (omega (arith, s, h.order)))

  own-props : (rs : List PropRow) → All (Named a e n) rs → map (laid_prop a e (own_bytes m)) rs ≡ rs
  own-props [] h = refl
  own-props (r ∷ rs) h = ap₂ (λ (x : PropRow) (y : List PropRow). x ∷ y) (own_prop r h.0) (own-props rs h.1)

  pub own-rows : laid_tables m (own_bytes m) ≡ rows_in m
  own-rows =
      ap₂ (λ (x : List PropRow) (y : List ValRow). record { trees = (rows_in m).trees; nodes = (rows_in m).nodes; props = x; vals = y })
      (own-props (rows_in m).props (all_named 0 P (omega arith)))
      (tabulate-ext (laid_val a e (own_bytes m)) (val_row m.values) 0 n (λ j _ l. own_val j (omega arith)))
