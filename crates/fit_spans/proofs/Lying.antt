-- Where the spans ascend, each lies in the text. Assumes nothing.
use Rattle.lists.proofs.Prelude.{ℕ, zero, suc, ◌+◌, ◌≤◌, ◌<◌, true, ◌&&◌, List, ◌∷◌, ◌++◌, ◌≡◌, sym, ap, ◌∙◌, subst, add-one, arith, leb, leb-true}
use Rattle.tables.specs.Columns.{name_from_at, name_to_at, first_val_at, val_count_at, val_from_at, val_to_at}
use Rattle.tables.specs.Each.{tabulate, sum}
use Rattle.fit_spans.specs.Ranges.{gapless}
use Rattle.fit_spans.specs.Spans.{Span, span, val_span, spans, ascending}
use Rattle.tables.proofs.Cases.{below_or, and_left, and_right}
use Rattle.lists.proofs.Tests.{same_or}
use Rattle.fit_spans.proofs.Ranges.{sum-next, gapless-first, gapless-sum}

module _ (used : ℕ) where
  -- a span lies in a text of `used` bytes
  abbrev pub Lies : Span → Type 0
  Lies s = (s.from ≤ s.to) × (s.to ≤ used)

  pub first-lies : (o : ℕ) (s : Span) (ss : List Span) → ascending used o (s ∷ ss) ≡ true → Lies s × (ascending used (suc s.to) ss ≡ true)
  unfolding ascending
  first-lies o s ss h =
      let h1 = and_right (leb o s.from) (leb s.from s.to && (leb s.to used && ascending used (suc s.to) ss)) h in
      let h2 = and_right (leb s.from s.to) (leb s.to used && ascending used (suc s.to) ss) h1 in (
        (
          leb-true s.from s.to (and_left (leb s.from s.to) (leb s.to used && ascending used (suc s.to) ss) h1),
          leb-true s.to used (and_left (leb s.to used) (ascending used (suc s.to) ss) h2),
        ),
        and_right (leb s.to used) (ascending used (suc s.to) ss) h2,
      )

  -- of a run of spans; and what follows it ascends
  run_lies : (f : ℕ → Span) (m v o : ℕ) (ss : List Span) → ascending used o (tabulate f v m ++ ss) ≡ true
      → ((k : ℕ) → v ≤ k → k < v + m → Lies (f k)) × ((o' : ℕ) × (ascending used o' ss ≡ true))
  unfolding tabulate
  run_lies f zero v o ss h = ((λ k a b. absurd (omega arith)), (o, h))
  run_lies f (suc m) v o ss h =
      let s = first-lies o (f v) (tabulate f (suc v) m ++ ss) h in
      let r = run_lies f m (suc v) (suc (f v).to) ss s.1 in
      ((λ k a b. same_or k v (λ e. subst (λ (z : ℕ). Lies (f z)) (sym e) s.0) (λ e. r.0 k (omega arith) (omega arith))), r.1)

module _ (pr vl : List ℕ) (used : ℕ) where
  names-from : (m p o k : ℕ) → ascending used o (spans pr vl p m) ≡ true → p ≤ k → k < p + m → Lies used (span (name_from_at pr k) (name_to_at pr k))
  unfolding spans
  names-from zero p o k h a b = absurd (omega arith)
  names-from (suc m) p o k h a b =
      let s = first-lies used o (span (name_from_at pr p) (name_to_at pr p)) (tabulate (val_span vl) (first_val_at pr p) (val_count_at pr p) ++ spans pr vl (suc p) m) h in
      let r = (run_lies used (val_span vl) (val_count_at pr p) (first_val_at pr p) (suc (name_to_at pr p)) (spans pr vl (suc p) m) s.1).1 in
      same_or k p (λ e. subst (λ (z : ℕ). Lies used (span (name_from_at pr z) (name_to_at pr z))) (sym e) s.0)
      (λ e. names-from m (suc p) r.0 k r.1 (omega arith) (omega arith))

  values-from : (m p o k : ℕ) → ((q : ℕ) → p ≤ q → q < p + m → first_val_at pr q ≡ sum (val_count_at pr) q) → ascending used o (spans pr vl p m) ≡ true
      → sum (val_count_at pr) p ≤ k → k < sum (val_count_at pr) (p + m) → Lies used (val_span vl k)
  unfolding spans
  values-from zero p o k f h a b =
      let e : p + 0 ≡ p = omega arith in
      absurd (omega (arith, ap (sum (val_count_at pr)) e))
  values-from (suc m) p o k f h a b =
      let s = first-lies used o (span (name_from_at pr p) (name_to_at pr p)) (tabulate (val_span vl) (first_val_at pr p) (val_count_at pr p) ++ spans pr vl (suc p) m) h in
      let r = run_lies used (val_span vl) (val_count_at pr p) (first_val_at pr p) (suc (name_to_at pr p)) (spans pr vl (suc p) m) s.1 in
      let w = f p (omega arith) (omega arith) in
      let e : p + suc m ≡ suc p + m = omega arith in
      let c : sum (val_count_at pr) (p + suc m) ≡ sum (val_count_at pr) (suc p + m) = ap (sum (val_count_at pr)) e in
      let g : sum (val_count_at pr) (suc p) ≡ sum (val_count_at pr) p + val_count_at pr p = ap (sum (val_count_at pr)) (sym (add-one p)) ∙ sum-next (first_val_at pr) (val_count_at pr) p in
      below_or k (first_val_at pr p + val_count_at pr p) (λ z. r.0 k (omega arith) z)
      (λ z. values-from m (suc p) r.1.0 k (λ q t u. f q (omega arith) (omega arith)) r.1.1 (omega arith) (omega arith))

-- ---- of all properties and all values

module _ (pr vl : List ℕ) (used n : ℕ) (asc : ascending used 0 (spans pr vl 0 n) ≡ true) where
  pub names-lie : (p : ℕ) → p < n → (name_from_at pr p ≤ name_to_at pr p) × (name_to_at pr p ≤ used)
  names-lie p h = names-from pr vl used n 0 0 p asc (omega arith) (omega arith)

  pub values-lie : (total : ℕ) → gapless (first_val_at pr) (val_count_at pr) n total ≡ true → (v : ℕ) → v < total → (val_from_at vl v ≤ val_to_at vl v) × (val_to_at vl v ≤ used)
  unfolding sum
  values-lie total g v h =
      let e : 0 + n ≡ n = omega arith in
      let s : sum (val_count_at pr) (0 + n) ≡ total = ap (sum (val_count_at pr)) e ∙ gapless-sum (first_val_at pr) (val_count_at pr) n total g in
      values-from pr vl used n 0 0 v (λ q a b. gapless-first (first_val_at pr) (val_count_at pr) n total g q (omega arith)) asc (omega arith) (omega arith)
