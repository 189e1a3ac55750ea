-- In tables that fit, identifiers and values stand before or behind a value by their numbers. Assumes nothing.
use Rattle.lists.proofs.Prelude.{ℕ, zero, suc, ◌+◌, ◌-◌, ◌≤◌, ◌<◌, true, ◌≡◌, refl, sym, ap, ◌∙◌, arith, List, length, leb-true}
use Rattle.lists.proofs.Tests.{same_or}
use Rattle.tables.specs.Columns.{name_from_at, first_val_at, val_count_at, val_from_at, val_to_at}
use Rattle.tables.specs.Each.{sum}
use Rattle.tables.specs.Memory.{Memory}
use Rattle.tables.specs.Numbers.{text_limit}
use Rattle.tables.proofs.Each.{each_at}
use Rattle.fit.specs.Fit.{Fit}
use Rattle.fit.specs.Record.{text_in}
use Rattle.fit.proofs.Clauses.{Clauses, fit-clauses, fit-short, fit-names, fit-vals}
use Rattle.fit_spans.specs.Ranges.{has_value}
use Rattle.fit_spans.proofs.Ranges.{gapless-first, gapless-sum, gapless-in}
use Rattle.edit.specs.Locals.{NamesApart, ValuesApart}
use Rattle.edit.proofs.Apart.{up_suc}
use Rattle.edit.proofs.Rising.{Rise, rises}

module _ (m : Memory) (fit : Fit m ≡ true) where
  abbrev vl : List ℕ
  vl = m.values

  abbrev pr : List ℕ
  pr = m.properties

  abbrev n : ℕ
  n = m.counts.values

  abbrev P : ℕ
  P = m.counts.properties

  F : Clauses (text_in m) m.counts m.trees m.nodes m.properties m.values
  F = fit-clauses m fit

  first : (p : ℕ) → p < P → first_val_at pr p ≡ sum (val_count_at pr) p
  first p l = gapless-first (first_val_at pr) (val_count_at pr) P n F.prop-ranges p l

  has : (p : ℕ) → p < P → 1 ≤ val_count_at pr p
  has p l = leb-true 1 (val_count_at pr p) (each_at (has_value pr) P p F.have-values l)

  up-all : sum (val_count_at pr) (0 + P) ≡ n
  up-all = let z : 0 + P ≡ P = omega arith in ap (sum (val_count_at pr)) z ∙ gapless-sum (first_val_at pr) (val_count_at pr) P n F.prop-ranges

  none : sum (val_count_at pr) 0 ≡ 0
  unfolding sum
  none = refl

  rise : Rise pr vl (length (text_in m)) 0 P
  rise = rises pr vl (length (text_in m)) P 0 0 (λ i _ l. first i (omega arith)) (λ i _ l. has i (omega arith)) F.ascend

  -- a value ends before a later one starts
  chain : (j k : ℕ) → j < k → k < n → val_to_at vl j < val_from_at vl k
  chain j zero a b = absurd (omega arith)
  chain j (suc k) a b =
      let z : val_to_at vl k < val_from_at vl (suc k) = rise.values k (omega (arith, none)) (omega (arith, up-all, b)) in
      same_or j k (λ e. omega (arith, ap (val_to_at vl) e, z)) (λ e. omega (arith, chain j k (omega arith) (omega arith), (fit-vals m fit k (omega arith)).0, z))

  here : (p : ℕ) → p < P → first_val_at pr p < n
  here p l = omega (arith, gapless-in (first_val_at pr) (val_count_at pr) P n F.prop-ranges p l, has p l)

  module _ (k : ℕ) (h : k < n) where
    pub values-apart : {q e : ℕ} → q ≡ val_from_at vl k → e ≡ val_to_at vl k → ValuesApart vl n k q e text_limit
    values-apart {q} {e} eq ee =
        record {
          starts = sym eq;
          ends = sym ee;
          order = λ j l. (fit-vals m fit j l).0;
          inside = λ j l. omega (arith, (fit-vals m fit j l).1, fit-short m fit);
          before = λ j l. omega (arith, eq, chain j k l h);
          behind = λ j l b. omega (arith, ee, chain k j l b);
        }

    pub names_apart : {q e : ℕ} → q ≡ val_from_at vl k → e ≡ val_to_at vl k → NamesApart pr P k q e text_limit
    names_apart {q} {e} eq ee =
        record {
          rising = λ p l. omega (arith, first p (omega arith), first (suc p) l, up_suc pr vl (length (text_in m)) p);
          order = λ p l. (fit-names m fit p l).0;
          inside = λ p l. omega (arith, (fit-names m fit p l).1, fit-short m fit);
          before = λ p l a.
              let z = rise.before p (omega arith) (omega arith) in
              same_or (first_val_at pr p) k (λ y. omega (arith, eq, z, ap (val_from_at vl) y))
              (λ y. omega (arith, eq, z, (fit-vals m fit (first_val_at pr p) (here p l)).0, chain (first_val_at pr p) k (omega arith) h));
          behind = λ p l a.
              let j = first_val_at pr p - 1 in
              let z : val_to_at vl j < name_from_at pr p = rise.behind p j (omega arith) (omega arith) (omega arith) (omega (arith, none)) in
              same_or k j (λ y. omega (arith, ee, z, ap (val_to_at vl) y))
              (λ y. omega (arith, ee, z, chain k j (omega arith) (omega (arith, here p l)), (fit-vals m fit j (omega (arith, here p l))).0));
        }
