-- What applying asks of its steps, and that their work is the text and the rows as corrected. Assumes nothing.
use Rattle.lists.proofs.Prelude.{ℕ, zero, suc, ◌+◌, ◌-◌, ◌≤◌, ◌<◌, true, ◌≡◌, refl, sym, ap₂, ◌∙◌, arith, List, length}
use Rattle.tables.specs.Columns.{name_from_at, name_to_at, first_val_at, val_count_at, val_from_at, val_to_at}
use Rattle.tables.specs.Each.{sum, tabulate}
use Rattle.tables.specs.Memory.{Memory}
use Rattle.tables.specs.Numbers.{text_limit}
use Rattle.tables.specs.Rows.{PropRow}
use Rattle.fit.specs.Fit.{Fit}
use Rattle.fit.specs.Record.{prop_row, text_in}
use Rattle.fit.proofs.Clauses.{fit-clauses, fit-names, fit-short}
use Rattle.fit.proofs.Parts.{map-tabulate}
use Rattle.fit_spans.proofs.Ranges.{gapless-first}
use Rattle.feed_laid.specs.Laid.{shift, laid_val, laid_prop}
use Rattle.feed_laid.proofs.Edited.{Named, tabulate-ext}
use Rattle.feed_laid.proofs.OverMemory.{named}
use Rattle.feed_laid.proofs.Places.{sum_more}
use Rattle.feed_laws.specs.Corrected.{new_bytes, corrected_text, corrected_rows}
use Rattle.feed_laws.proofs.Lengths.{laid-length}
use Rattle.feed_apply.specs.LocalsSizes.{grown_to, shrunk_to, spanned_to, size_moved, moved_val, moved_prop, Spread, NamesStand}
use Rattle.feed_apply.proofs.Measuring.{spread, new-sum}
use Rattle.feed_apply.proofs.Sizes.{spanned-more, spanned-none, spanned-low, shrunk-spanned}
use Rattle.feed_apply.proofs.Sweeping.{used-is}

module _ (m : Memory) (fit : Fit m ≡ true) (w : List ℕ) where
  abbrev vl : List ℕ
  vl = m.values

  abbrev pr : List ℕ
  pr = m.properties

  abbrev n : ℕ
  n = m.counts.values

  abbrev P : ℕ
  P = m.counts.properties

  abbrev a : ℕ → ℕ
  a = val_from_at vl

  abbrev e : ℕ → ℕ
  e = val_to_at vl

  x : Spread vl n (length (text_in m))
  x = spread m fit w

  -- within the limit
  pub spread-short : Spread vl n text_limit
  spread-short = record { order = x.order; apart = x.apart; inside = λ j l. omega (arith, x.inside j l, used-is m fit w, fit-short m fit) }

  low : (k : ℕ) → k < n → spanned_to vl k ≤ a k
  low k l = spanned-low vl w n (length (text_in m)) x k l

  end : (k : ℕ) → k < n → spanned_to vl (suc k) ≤ e k
  end k l = omega (arith, low k l, spanned-more vl w k, x.order k l)

  pub spanned-all : spanned_to vl n ≤ m.used
  spanned-all = go n refl
    where
      go : (k : ℕ) → n ≡ k → spanned_to vl k ≤ m.used
      go zero h = omega (arith, spanned-none vl w)
      go (suc k) h = omega (arith, end k (omega arith), x.inside k (omega arith), used-is m fit w)

  -- how long the text as corrected is
  pub corrected-length : length (corrected_text m w) ≡ m.used - shrunk_to vl w n + grown_to vl w n
  unfolding spanned_to
  corrected-length = omega (arith, laid-length m fit (new_bytes m w), new-sum m fit w n (omega arith), used-is m fit w, shrunk-spanned vl w n, spanned-all)

  -- ---- places

  moved-is : (k p : ℕ) → k ≤ n → spanned_to vl k ≤ p → size_moved vl w k p ≡ shift a e (new_bytes m w) k p
  unfolding shift spanned_to
  moved-is k p l h = omega (arith, new-sum m fit w k l, h)

  pub vals_are : tabulate (moved_val vl w) 0 n ≡ (corrected_rows m w).vals
  vals_are =
      tabulate-ext (moved_val vl w) (laid_val a e (new_bytes m w)) 0 n
      (λ j _ l. ap₂ (λ (y z : ℕ). record { from = y; to = z }) (moved-is j (a j) (omega arith) (low j (omega arith))) (moved-is (suc j) (e j) (omega arith) (end j (omega arith))))

  behind : (r : PropRow) → Named a e n r → spanned_to vl r.first ≤ r.from
  behind r h = go r.first refl
    where
      go : (i : ℕ) → r.first ≡ i → spanned_to vl i ≤ r.from
      go zero z = omega (arith, spanned-none vl w)
      go (suc i) z = omega (arith, end i (omega (arith, h.here, z)), h.behind i z)

  pub names_stand : NamesStand pr vl P n text_limit
  names_stand =
      record {
        here = λ p l. omega (arith, (named m fit p l).here);
        rising = λ p l. omega (arith, first p (omega arith), first (suc p) l, sum_more (val_count_at pr) p);
        behind = λ p l. behind (prop_row pr p) (named m fit p l);
        order = λ p l. (fit-names m fit p l).0;
        inside = λ p l. omega (arith, (fit-names m fit p l).1, fit-short m fit);
      }
    where
      first : (p : ℕ) → p < P → first_val_at pr p ≡ sum (val_count_at pr) p
      first p l = gapless-first (first_val_at pr) (val_count_at pr) P n (fit-clauses m fit).prop-ranges p l

  pub props-are : tabulate (moved_prop pr vl w) 0 P ≡ (corrected_rows m w).props
  props-are =
      tabulate-ext (moved_prop pr vl w) (λ p. laid_prop a e (new_bytes m w) (prop_row pr p)) 0 P
      (λ p _ l. let h = named m fit p (omega arith) in
      ap₂ (λ (y z : ℕ). record { from = y; to = z; first = first_val_at pr p; count = val_count_at pr p })
      (moved-is (first_val_at pr p) (name_from_at pr p) (omega (arith, h.here)) (behind (prop_row pr p) h))
      (moved-is (first_val_at pr p) (name_to_at pr p) (omega (arith, h.here)) (omega (arith, behind (prop_row pr p) h, h.order))))
      ∙ sym (map-tabulate (prop_row pr) (laid_prop a e (new_bytes m w)) 0 P)
