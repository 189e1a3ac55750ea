-- Spans that ascend lie apart: each of them ends before a value of them starts, or starts after it ends, or is that value. Assumes nothing.
use Rattle.lists.proofs.Prelude.{ℕ, zero, suc, ◌+◌, ◌≤◌, ◌<◌, Bool, true, ◌&&◌, List, ◌∷◌, ◌++◌, ◌⊎◌, inl, inr, ◌≡◌, sym, ap, ◌∙◌, add-one, arith, leb, leb-true, le-leb}
use Rattle.tables.specs.Columns.{name_from_at, name_to_at, first_val_at, val_count_at, val_from_at, val_to_at}
use Rattle.tables.specs.Each.{tabulate, sum}
use Rattle.fit_spans.specs.Spans.{Span, span, val_span, spans, ascending}
use Rattle.tables.proofs.Cases.{below_or, and_left, and_right}
use Rattle.lists.proofs.Tests.{same_or}
use Rattle.fit_spans.proofs.Ranges.{sum-next}

module _ (used : ℕ) where
  pub record First (o : ℕ) (s : Span) (ss : List Span) : Type 0 where
    pub low : o ≤ s.from
    pub order : s.from ≤ s.to
    pub inside : s.to ≤ used
    pub rest : ascending used (suc s.to) ss ≡ true

  pub first-is : (o : ℕ) (s : Span) (ss : List Span) → ascending used o (s ∷ ss) ≡ true → First o s ss
  unfolding ascending
  first-is o s ss h =
      let r : Bool = ascending used (suc s.to) ss in
      let h1 = and_right (leb o s.from) (leb s.from s.to && (leb s.to used && r)) h in
      let h2 = and_right (leb s.from s.to) (leb s.to used && r) h1 in
      record {
        low = leb-true o s.from (and_left (leb o s.from) (leb s.from s.to && (leb s.to used && r)) h);
        order = leb-true s.from s.to (and_left (leb s.from s.to) (leb s.to used && r) h1);
        inside = leb-true s.to used (and_left (leb s.to used) r h2);
        rest = and_right (leb s.to used) r h2;
      }

  pub is-first : (o : ℕ) (s : Span) (ss : List Span) → First o s ss → ascending used o (s ∷ ss) ≡ true
  unfolding ascending
  is-first o s ss f = rw (le-leb o s.from f.low, le-leb s.from s.to f.order, le-leb s.to used f.inside) f.rest

  -- a run of spans: all start at o or later; `memory_next` is behind them all, and what follows may start there
  pub record Run (f : ℕ → Span) (m v o : ℕ) (ss : List Span) : Type 0 where
    pub low : (j : ℕ) → v ≤ j → j < v + m → o ≤ (f j).from
    pub pairs : (i j : ℕ) → v ≤ i → i < j → j < v + m → (f i).to < (f j).from
    pub next : ℕ
    pub past : o ≤ next
    pub behind : (j : ℕ) → v ≤ j → j < v + m → (f j).to < next
    pub rest : ascending used next ss ≡ true

  run_is : (f : ℕ → Span) (m v o : ℕ) (ss : List Span) → ascending used o (tabulate f v m ++ ss) ≡ true → Run f m v o ss
  unfolding tabulate
  run_is f zero v o ss h =
      record { low = λ j a b. absurd (omega arith); pairs = λ i j a b c. absurd (omega arith); next = o; past = omega arith; behind = λ j a b. absurd (omega arith); rest = h }
  run_is f (suc m) v o ss h =
      let s = first-is o (f v) (tabulate f (suc v) m ++ ss) h in
      let r = run_is f m (suc v) (suc (f v).to) ss s.rest in
      record {
        low = λ j a b. same_or j v (λ e. rw e s.low) (λ e. omega (arith, r.low j (omega arith) (omega arith), s.low, s.order));
        pairs = λ i j a b c. same_or i v (λ e. rw e (r.low j (omega arith) (omega arith))) (λ e. r.pairs i j (omega arith) b (omega arith));
        next = r.next;
        past = omega (arith, r.past, s.low, s.order);
        behind = λ j a b. same_or j v (λ e. rw e (omega (arith, r.past))) (λ e. r.behind j (omega arith) (omega arith));
        rest = r.rest;
      }

-- ---- all spans of the properties

module _ (pr vl : List ℕ) (used : ℕ) where
  abbrev pub name : ℕ → Span
  name p = span (name_from_at pr p) (name_to_at pr p)

  abbrev pub up_to : ℕ → ℕ
  up_to p = sum (val_count_at pr) p

  abbrev pub Ranged : (p m : ℕ) → Type 0
  Ranged p m = (i : ℕ) → p ≤ i → i < p + m → first_val_at pr i ≡ up_to i

  pub up_suc : (p : ℕ) → up_to (suc p) ≡ up_to p + val_count_at pr p
  up_suc p = ap up_to (sym (add-one p)) ∙ sum-next (first_val_at pr) (val_count_at pr) p

  -- a property's spans: the identifier, the run of its values, and what follows
  pub record Property (p m o : ℕ) : Type 0 where
    pub head : First used o (name p) (tabulate (val_span vl) (first_val_at pr p) (val_count_at pr p) ++ spans pr vl (suc p) m)
    pub run : Run used (val_span vl) (val_count_at pr p) (first_val_at pr p) (suc (name_to_at pr p)) (spans pr vl (suc p) m)

  pub property-is : (p m o : ℕ) → ascending used o (spans pr vl p (suc m)) ≡ true → Property p m o
  unfolding spans
  property-is p m o h =
      let s = first-is used o (name p) (tabulate (val_span vl) (first_val_at pr p) (val_count_at pr p) ++ spans pr vl (suc p) m) h in
      record { head = s; run = run_is used (val_span vl) (val_count_at pr p) (first_val_at pr p) (suc (name_to_at pr p)) (spans pr vl (suc p) m) s.rest }

  -- all start at o or later
  pub spans-low : (m p o : ℕ) → Ranged p m → ascending used o (spans pr vl p m) ≡ true
      → ((i : ℕ) → p ≤ i → i < p + m → o ≤ name_from_at pr i) × ((j : ℕ) → up_to p ≤ j → j < up_to (p + m) → o ≤ val_from_at vl j)
  spans-low zero p o g h = ((λ i a b. absurd (omega arith)), (λ j a b. let e : p + 0 ≡ p = omega arith in absurd (omega (arith, ap up_to e))))
  spans-low (suc m) p o g h =
      let x = property-is p m o h in
      let r = x.run in
      let b1 = x.head.low in
      let b2 = x.head.order in
      let b3 = r.past in
      let w = spans-low m (suc p) r.next (λ i a b. g i (omega arith) (omega arith)) r.rest in
      let e : p + suc m ≡ suc p + m = omega arith in
      let u = up_suc p in
      let f = g p (omega arith) (omega arith) in (
        (λ i a b. same_or i p (λ z. rw z b1) (λ z. omega (arith, w.0 i (omega arith) (omega arith)))),
        (λ j a b.
            below_or j (up_to (suc p)) (λ z. omega (arith, r.low j (omega arith) (omega arith)))
            (λ z. omega (arith, w.1 j z (omega (arith, ap up_to e))))),
      )

  -- ---- apart from value k

  module _ (k : ℕ) where
    abbrev pub Apart : Span → Type 0
    Apart s = (s.to < val_from_at vl k) ⊎ (val_to_at vl k < s.from)

    pub record AllApart (p m : ℕ) : Type 0 where
      pub names : (i : ℕ) → p ≤ i → i < p + m → Apart (name i)
      pub values : (j : ℕ) → up_to p ≤ j → j < up_to (p + m) → (j ≡ k → ⊥) → Apart (val_span vl j)

    -- value k is one of the first property's
    apart-here : (m p o : ℕ) → Ranged p (suc m) → ascending used o (spans pr vl p (suc m)) ≡ true → up_to p ≤ k → k < up_to (suc p) → AllApart p (suc m)
    apart-here m p o g h a b =
        let x = property-is p m o h in
        let r = x.run in
        let f = g p (omega arith) (omega arith) in
        let u = up_suc p in
        let e : p + suc m ≡ suc p + m = omega arith in
        let w = spans-low m (suc p) r.next (λ i y z. g i (omega arith) (omega arith)) r.rest in
        let last = r.behind k (omega arith) (omega arith) in
        record {
          names = λ i y z. same_or i p (λ q. rw q (inl (omega (arith, r.low k (omega arith) (omega arith))))) (λ q. inr (omega (arith, last, w.0 i (omega arith) (omega arith))));
          values = λ j y z n.
              below_or j (up_to (suc p))
              (λ q. below_or j k (λ t. inl (r.pairs j k (omega arith) t (omega arith))) (λ t. let s : k < j = below_or k j (λ l. l) (λ l. absurd (n (omega arith))) in inr (r.pairs k j (omega arith) s (omega arith))))
              (λ q. inr (omega (arith, last, w.1 j q (omega (arith, ap up_to e)))));
        }

    pub all_apart : (m p o : ℕ) → Ranged p m → ascending used o (spans pr vl p m) ≡ true → up_to p ≤ k → k < up_to (p + m) → AllApart p m
    all_apart zero p o g h a b = let e : p + 0 ≡ p = omega arith in absurd (omega (arith, ap up_to e))
    all_apart (suc m) p o g h a b =
        below_or k (up_to (suc p)) (λ z. apart-here m p o g h a z)
        (λ z.
        let x = property-is p m o h in
        let r = x.run in
        let f = g p (omega arith) (omega arith) in
        let u = up_suc p in
        let e : p + suc m ≡ suc p + m = omega arith in
        let d : up_to (p + suc m) ≡ up_to (suc p + m) = ap up_to e in
        let s : Ranged (suc p) m = λ i y t. g i (omega arith) (omega arith) in
        let low : r.next ≤ val_from_at vl k = (spans-low m (suc p) r.next s r.rest).1 k z (omega arith) in
        let w = all_apart m (suc p) r.next s r.rest z (omega arith) in
        let b1 = r.past in
        record {
          names = λ i y t. same_or i p (λ q. rw q (inl (omega arith))) (λ q. w.names i (omega arith) (omega arith));
          values = λ j y t n. below_or j (up_to (suc p)) (λ q. inl (omega (arith, r.behind j (omega arith) (omega arith)))) (λ q. w.values j q (omega arith) n);
        })
