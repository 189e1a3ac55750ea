-- The loop that compares the roots with the nodes without parent. Assumes nothing.
use Rattle.lists.proofs.Prelude.{ℕ, suc, ◌+◌, ◌-◌, ◌≤◌, ◌<◌, Bool, false, List, [], ◌∷◌, ◌≡◌, add-one, arith, eqb, eq-eqb, ne_eqb, pick}
use Rattle.lists.specs.Same.{same}
use Rattle.tables.specs.Numbers.{none}
use Rattle.tables.specs.Columns.{root_at, parent_at}
use Rattle.tables.specs.Each.{tabulate}
use Rattle.fit_nodes.specs.Nodes.{orphans}
use Rattle.lists.proofs.Tests.{same_or}

module _ (tr nd : List ℕ) (m n : ℕ) where
  abbrev pub rest : (r k : ℕ) → Bool
  rest r k = same (tabulate (root_at tr) r (m - r)) (orphans nd k (n - k))

  module _ (r k : ℕ) (h : k < n) where
    orphans-step : orphans nd k (n - k) ≡ pick (eqb (parent_at nd k) none) (k ∷ orphans nd (k + 1) (n - (k + 1))) (orphans nd (k + 1) (n - (k + 1)))
    unfolding orphans
    orphans-step = let e : n - k ≡ suc (n - suc k) = omega arith in rw (e, add-one)

    pub root-other : (parent_at nd k ≡ none → ⊥) → rest r (k + 1) ≡ rest r k
    root-other a = rw (orphans-step, ne_eqb (parent_at nd k) none a)

    pub root_over : parent_at nd k ≡ none → r ≡ m → rest r k ≡ false
    unfolding tabulate
    root_over a b = let e : m - r ≡ 0 = omega arith in rw (orphans-step, eq-eqb (parent_at nd k) none a, e)

    roots-step : r < m → tabulate (root_at tr) r (m - r) ≡ root_at tr r ∷ tabulate (root_at tr) (r + 1) (m - (r + 1))
    unfolding tabulate
    roots-step l = let e : m - r ≡ suc (m - suc r) = omega arith in rw (e, add-one)

    pub root-wrong : parent_at nd k ≡ none → r < m → (root_at tr r ≡ k → ⊥) → rest r k ≡ false
    root-wrong a l b = rw (orphans-step, eq-eqb (parent_at nd k) none a, roots-step l, ne_eqb (root_at tr r) k b)

    pub root-right : parent_at nd k ≡ none → r < m → root_at tr r ≡ k → rest (r + 1) (k + 1) ≡ rest r k
    root-right a l b = rw (orphans-step, eq-eqb (parent_at nd k) none a, roots-step l, eq-eqb (root_at tr r) k b)

  pub root-first : rest 0 0 ≡ same (tabulate (root_at tr) 0 m) (orphans nd 0 n)
  root-first =
      let a : m - 0 ≡ m = omega arith in
      let b : n - 0 ≡ n = omega arith in
      rw (a, b)

  pub root-end : (r k : ℕ) → r ≤ m → n ≤ k → eqb r m ≡ rest r k
  unfolding orphans tabulate
  root-end r k a b = let e : n - k ≡ 0 = omega arith in rw e (go r m a)
    where
      go : (r m : ℕ) → r ≤ m → eqb r m ≡ same (tabulate (root_at tr) r (m - r)) []
      go r m a = same_or r m
          (λ z. let w : m - r ≡ 0 = omega arith in rw w (eq-eqb r m z))
          (λ z. let w : m - r ≡ suc (m - suc r) = omega arith in rw w (ne_eqb r m z))
