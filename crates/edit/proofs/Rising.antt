-- Spans that ascend rise by number: each value ends before the next starts, and an identifier stands between the value before it and its own first. Assumes nothing.
use Rattle.lists.proofs.Prelude.{ℕ, zero, suc, ◌+◌, ◌≤◌, ◌<◌, true, ◌≡◌, sym, ap, subst, arith, List}
use Rattle.lists.proofs.Tests.{same_or}
use Rattle.tables.specs.Columns.{name_from_at, name_to_at, first_val_at, val_count_at, val_from_at, val_to_at}
use Rattle.tables.proofs.Cases.{below_or}
use Rattle.fit_spans.specs.Spans.{spans, ascending}
use Rattle.edit.proofs.Apart.{Ranged, up_to, up_suc, property-is, spans-low}

module _ (pr vl : List ℕ) (used : ℕ) where
  pub record Rise (p m : ℕ) : Type 0 where
    pub values : (j : ℕ) → up_to pr vl used p ≤ j → suc j < up_to pr vl used (p + m) → val_to_at vl j < val_from_at vl (suc j)
    pub before : (i : ℕ) → p ≤ i → i < p + m → name_to_at pr i < val_from_at vl (first_val_at pr i)
    pub behind : (i j : ℕ) → p ≤ i → i < p + m → first_val_at pr i ≡ suc j → up_to pr vl used p ≤ j → val_to_at vl j < name_from_at pr i

  pub rises : (m p o : ℕ) → Ranged pr vl used p m → ((i : ℕ) → p ≤ i → i < p + m → 1 ≤ val_count_at pr i) → ascending used o (spans pr vl p m) ≡ true → Rise p m
  rises zero p o g n h =
      record {
        values = λ j a b. let e : p + 0 ≡ p = omega arith in absurd (omega (arith, ap (up_to pr vl used) e));
        before = λ i a b. absurd (omega arith);
        behind = λ i j a b c d. absurd (omega arith);
      }
  rises (suc m) p o g n h =
      let x = property-is pr vl used p m o h in
      let r = x.run in
      let w = spans-low pr vl used m (suc p) r.next (λ i a b. g i (omega arith) (omega arith)) r.rest in
      let z = rises m (suc p) r.next (λ i a b. g i (omega arith) (omega arith)) (λ i a b. n i (omega arith) (omega arith)) r.rest in
      let e : p + suc m ≡ suc p + m = omega arith in
      let t = ap (up_to pr vl used) e in
      let u = up_suc pr vl used p in
      let f = g p (omega arith) (omega arith) in
      record {
        values = λ j a b.
            below_or (suc j) (up_to pr vl used (suc p)) (λ l. r.pairs j (suc j) (omega (arith, f, a)) (omega arith) (omega (arith, f, u, l)))
            (λ l. below_or j (up_to pr vl used (suc p))
            (λ k. omega (arith, r.behind j (omega (arith, f, a)) (omega (arith, f, u, k)), w.1 (suc j) l (omega (arith, t, b))))
            (λ k. z.values j k (omega (arith, t, b))));
        before = λ i a b.
            same_or i p (λ q. subst (λ (y : ℕ). name_to_at pr y < val_from_at vl (first_val_at pr y)) (sym q) (r.low (first_val_at pr p) (omega arith) (omega (arith, n p (omega arith) (omega arith)))))
            (λ q. z.before i (omega arith) (omega arith));
        behind = λ i j a b c d.
            same_or i p (λ q. absurd (omega (arith, c, d, f, ap (first_val_at pr) q)))
            (λ q. below_or j (up_to pr vl used (suc p))
            (λ k. omega (arith, r.behind j (omega (arith, f, d)) (omega (arith, f, u, k)), w.0 i (omega arith) (omega arith)))
            (λ k. z.behind i j (omega arith) (omega arith) c k));
      }
