-- Spans one after another: one span, a run of values, a property, all properties. Assumes nothing.
use Rattle.lists.proofs.Prelude.{ℕ, suc, ◌+◌, ◌-◌, ◌≤◌, ◌<◌, Bool, true, false, ◌&&◌, and_assoc, and-false, List, [], ◌∷◌, ◌++◌, ◌≡◌, sym, ap, ◌∙◌, add-one, arith, leb, le-leb, lt-leb}
use Rattle.tables.specs.Columns.{first_val_at, val_count_at, name_from_at, name_to_at, val_from_at, val_to_at}
use Rattle.tables.specs.Each.{tabulate}
use Rattle.fit_spans.specs.Locals.{Spanned}
use Rattle.fit_spans.specs.Spans.{Span, span, val_span, prop_spans, spans, ascending}

-- ---- one span

module _ (used o a e : ℕ) where
  pub span-out : used < e → Spanned used o (span a e ∷ []) false 0
  unfolding ascending
  span-out h = record { rest = λ ss. rw (lt-leb e used h, and-false (leb a e)) (and-false (leb o a)) }

  pub span-in : e ≤ used → Spanned used o (span a e ∷ []) (leb o a && leb a e) (e + 1)
  unfolding ascending
  span-in h = record { rest = λ ss. rw (add-one e, le-leb e used h) (sym (and_assoc (leb o a) (leb a e) (ascending used (suc e) ss))) }

-- ---- the loop over values: what is left, from k on, answers as the whole

pub record Values (vl : List ℕ) (used o v m k next : ℕ) : Type 0 where
  pub low : v ≤ k
  pub high : k ≤ v + m
  pub is : (ss : List Span) → ascending used o (tabulate (val_span vl) v m ++ ss) ≡ ascending used next (tabulate (val_span vl) k (v + m - k) ++ ss)

pub values-first : (vl : List ℕ) (used o v m : ℕ) → Values vl used o v m v o
values-first vl used o v m =
    let e : v + m - v ≡ m = omega arith in
    record { low = omega arith; high = omega arith; is = λ ss. ap (λ (z : ℕ). ascending used o (tabulate (val_span vl) v z ++ ss)) (sym e) }

module _ {vl : List ℕ} {used o v m k next : ℕ} (x : Values vl used o v m k next) where
  pub values-end : v + m ≤ k → Spanned used o (tabulate (val_span vl) v m) true next
  unfolding tabulate
  values-end h =
      let e : v + m - k ≡ 0 = omega (arith, x.high) in
      record { rest = λ ss. x.is ss ∙ ap (λ (z : ℕ). ascending used next (tabulate (val_span vl) k z ++ ss)) e }

  module _ (h : k < v + m) {a e : ℕ} (ea : a ≡ val_from_at vl k) (ee : e ≡ val_to_at vl k) {ok : Bool} {n : ℕ} (y : Spanned used next (span a e ∷ []) ok n) where
    values-step : (ss : List Span) → ascending used o (tabulate (val_span vl) v m ++ ss) ≡ (ok && ascending used n (tabulate (val_span vl) (k + 1) (v + m - (k + 1)) ++ ss))
    unfolding tabulate
    values-step ss =
        let q : v + m - k ≡ suc (v + m - suc k) = omega arith in
        let s : k + 1 ≡ suc k = omega arith in
        x.is ss ∙ rw (q, s, ← ea, ← ee) (y.rest (tabulate (val_span vl) (suc k) (v + m - suc k) ++ ss))

    pub values-not : ok ≡ false → Spanned used o (tabulate (val_span vl) v m) ok n
    values-not z = record { rest = λ ss. values-step ss ∙ rw z }

    pub values-more : ok ≡ true → Values vl used o v m (k + 1) n
    values-more z = record { low = omega (arith, x.low); high = omega arith; is = λ ss. values-step ss ∙ rw z }

-- ---- a property

module _ (pr vl : List ℕ) (k : ℕ) {used o n : ℕ} {a e : ℕ} (ea : a ≡ name_from_at pr k) (ee : e ≡ name_to_at pr k) {ok : Bool} (x : Spanned used o (span a e ∷ []) ok n) where
  pub property-not : ok ≡ false → Spanned used o (prop_spans pr vl k) ok n
  property-not z = record { rest = λ ss. rw (← ea, ← ee) (x.rest (tabulate (val_span vl) (first_val_at pr k) (val_count_at pr k) ++ ss) ∙ rw z) }

  pub property-is : ok ≡ true → {v m : ℕ} → v ≡ first_val_at pr k → m ≡ val_count_at pr k → {ok' : Bool} {n' : ℕ} → Spanned used n (tabulate (val_span vl) v m) ok' n'
      → Spanned used o (prop_spans pr vl k) ok' n'
  property-is z {v} {m} ev em y =
      record { rest = λ ss. rw (← ea, ← ee, ← ev, ← em) (x.rest (tabulate (val_span vl) v m ++ ss) ∙ rw z (y.rest ss)) }

-- ---- the loop over properties

module _ (pr vl : List ℕ) (n used : ℕ) where
  -- what is left from property p on, the next span at o or later
  abbrev pub spanning : (o p : ℕ) → Bool
  spanning o p = ascending used o (spans pr vl p (n - p))

  pub spanning-first : spanning 0 0 ≡ ascending used 0 (spans pr vl 0 n)
  spanning-first = let e : n - 0 ≡ n = omega arith in rw e

  pub spanning-end : (o p : ℕ) → n ≤ p → spanning o p ≡ true
  unfolding spans ascending
  spanning-end o p h = let e : n - p ≡ 0 = omega arith in rw e

  module _ {o p : ℕ} (h : p < n) {ok : Bool} {next : ℕ} (y : Spanned used o (prop_spans pr vl p) ok next) where
    spanning-step : spanning o p ≡ (ok && spanning next (p + 1))
    unfolding spans
    spanning-step =
        let q : n - p ≡ suc (n - suc p) = omega arith in
        let s : p + 1 ≡ suc p = omega arith in
        rw (q, s) (y.rest (spans pr vl (suc p) (n - suc p)))

    pub spanning-not : ok ≡ false → spanning o p ≡ false
    spanning-not z = spanning-step ∙ rw z

    pub spanning-more : ok ≡ true → spanning o p ≡ spanning next (p + 1)
    spanning-more z = spanning-step ∙ rw z
