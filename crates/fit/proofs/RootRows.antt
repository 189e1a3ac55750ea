-- The roots of tables that fit: the first node is the first root, they ascend, each has no parent, and what stands between two has one. Assumes nothing.
use Rattle.lists.proofs.Prelude.{ℕ, zero, suc, ◌+◌, ◌≤◌, ◌<◌, Bool, true, false, false≢true, List, [], ◌∷◌, ◌≡◌, refl, sym, ap₂, ◌∙◌, subst, arith, eqb, eqb-true, eqb-false, pick}
use Rattle.lists.specs.Same.{same}
use Rattle.lists.proofs.Tests.{and_both, never, same_or}
use Rattle.tables.specs.Numbers.{none}
use Rattle.tables.specs.Columns.{root_at, parent_at}
use Rattle.tables.specs.Each.{tabulate}
use Rattle.fit_nodes.specs.Nodes.{orphans, roots_right}

-- lists that are the same are equal
pub same-equal : (xs ys : List ℕ) → same xs ys ≡ true → xs ≡ ys
same-equal [] [] h = refl
same-equal [] (y ∷ ys) h = absurd (false≢true h)
same-equal (x ∷ xs) [] h = absurd (false≢true h)
same-equal (x ∷ xs) (y ∷ ys) h =
    let b = and_both (eqb x y) (same xs ys) h in
    ap₂ (λ (z : ℕ) (zs : List ℕ). z ∷ zs) (eqb-true x y b.0) (same-equal xs ys b.1)

module _ (tr nd : List ℕ) where
  abbrev R : ℕ → ℕ
  R = root_at tr

  -- the m roots from a on are the nodes without parent of the n nodes from k on
  abbrev Listed : (a m k n : ℕ) → Type 0
  Listed a m k n = tabulate R a m ≡ orphans nd k n

  none-listed : (a m k : ℕ) → Listed a m k 0 → m ≡ 0
  unfolding tabulate orphans
  none-listed a zero k e = refl
  none-listed a (suc m) k e = never cc

  -- node k has no parent: it is the first root; or it is none
  listed-step {ℓ} : {X : Type ℓ} (a m k n : ℕ) → Listed a m k (suc n)
      → ((j : ℕ) → m ≡ suc j → R a ≡ k → parent_at nd k ≡ none → Listed (suc a) j (suc k) n → X) → ((parent_at nd k ≡ none → ⊥) → Listed a m (suc k) n → X) → X
  unfolding tabulate orphans
  listed-step {X = X} a m k n e f g = go (eqb (parent_at nd k) none) refl m e f g
    where
      go : (b : Bool) → eqb (parent_at nd k) none ≡ b → (m : ℕ) → tabulate R a m ≡ pick b (k ∷ orphans nd (suc k) n) (orphans nd (suc k) n)
          → ((j : ℕ) → m ≡ suc j → R a ≡ k → parent_at nd k ≡ none → Listed (suc a) j (suc k) n → X) → ((parent_at nd k ≡ none → ⊥) → Listed a m (suc k) n → X) → X
      go true q zero e f g = never cc
      go true q (suc j) e f g =
          let x : R a ≡ k = cc in
          let y : tabulate R (suc a) j ≡ orphans nd (suc k) n = cc in
          f j refl x (eqb-true (parent_at nd k) none q) y
      go false q m e f g = g (eqb-false (parent_at nd k) none q) e

  roots-listed : (n a m k : ℕ) → Listed a m k n → (i : ℕ) → i < m → (k ≤ R (a + i)) × (R (a + i) < k + n) × (parent_at nd (R (a + i)) ≡ none)
  roots-listed zero a m k e i h = absurd (omega (arith, none-listed a m k e))
  roots-listed (suc n) a m k e i h =
      listed-step a m k n e (λ j l x p r. at i j l x p h (λ i. roots-listed n (suc a) j (suc k) r i))
      (λ p r. let w = roots-listed n a m (suc k) r i h in (omega (arith, w.0), omega (arith, w.1), w.2))
    where
      at : (i j : ℕ) → m ≡ suc j → R a ≡ k → parent_at nd k ≡ none → i < m → ((i : ℕ) → i < j → (suc k ≤ R (suc a + i)) × (R (suc a + i) < suc k + n) × (parent_at nd (R (suc a + i)) ≡ none)) → (k ≤ R (a + i)) × (R (a + i) < k + suc n) × (parent_at nd (R (a + i)) ≡ none)
      at zero j l x p h w = let c : a + 0 ≡ a = omega arith in rw (c, x) (omega arith, omega arith, p)
      at (suc i) j l x p h w =
          let c : a + suc i ≡ suc a + i = omega arith in
          let v = w i (omega arith) in
          rw c (omega (arith, v.0), omega (arith, v.1), v.2)

  roots-rise : (n a m k : ℕ) → Listed a m k n → (i : ℕ) → suc i < m → R (a + i) < R (a + suc i)
  roots-rise zero a m k e i h = absurd (omega (arith, none-listed a m k e))
  roots-rise (suc n) a m k e i h = listed-step a m k n e (λ j l x p r. at i j l x r h (λ i. roots-rise n (suc a) j (suc k) r i)) (λ p r. roots-rise n a m (suc k) r i h)
    where
      at : (i j : ℕ) → m ≡ suc j → R a ≡ k → Listed (suc a) j (suc k) n → suc i < m → ((i : ℕ) → suc i < j → R (suc a + i) < R (suc a + suc i)) → R (a + i) < R (a + suc i)
      at zero j l x r h v =
          let c : a + 0 ≡ a = omega arith in
          let d : a + 1 ≡ suc a + 0 = omega arith in
          let w = roots-listed n (suc a) j (suc k) r 0 (omega arith) in
          rw (c, d, x) (omega (arith, w.0))
      at (suc i) j l x r h v =
          let c : a + suc i ≡ suc a + i = omega arith in
          let d : a + suc (suc i) ≡ suc a + suc i = omega arith in
          rw (c, d) (v i (omega arith))

  -- a node without parent is a root
  roots-found : (n a m k : ℕ) → Listed a m k n → (x : ℕ) → k ≤ x → x < k + n → parent_at nd x ≡ none → (i : ℕ) × (i < m) × (R (a + i) ≡ x)
  roots-found zero a m k e x h l p = absurd (omega arith)
  roots-found (suc n) a m k e x h l p =
      listed-step a m k n e (λ j c d q r. same_or k x (λ z. (0, omega arith, (let o : a + 0 ≡ a = omega arith in rw o (d ∙ z))))
      (λ z. let w = roots-found n (suc a) j (suc k) r x (omega arith) (omega arith) p in (suc w.0, omega (arith, w.1), (let o : a + suc w.0 ≡ suc a + w.0 = omega arith in rw o w.2))))
      (λ q r. let z : k ≡ x → ⊥ = λ z. q (subst (λ (v : ℕ). parent_at nd v ≡ none) (sym z) p) in roots-found n a m (suc k) r x (omega arith) (omega arith) p)

  zero-first : (n m : ℕ) → Listed 0 m 0 n → 0 < m → parent_at nd 0 ≡ none → R 0 ≡ 0
  zero-first zero m e h p = absurd (omega (arith, none-listed 0 m 0 e))
  zero-first (suc n) m e h p = listed-step 0 m 0 n e (λ j l x q r. x) (λ q r. absurd (q p))

  module _ (m n : ℕ) (h : roots_right m n tr nd ≡ true) where
    listed : Listed 0 m 0 n
    listed = same-equal (tabulate R 0 m) (orphans nd 0 n) h

    pub root_in : (r : ℕ) → r < m → (R r < n) × (parent_at nd (R r) ≡ none)
    root_in r l =
        let o : 0 + r ≡ r = omega arith in
        let w = roots-listed n 0 m 0 listed r l in
        (subst (λ (z : ℕ). R z < n) o (omega (arith, w.1)), subst (λ (z : ℕ). parent_at nd (R z) ≡ none) o w.2)

    pub root-rises : (r : ℕ) → suc r < m → R r < R (suc r)
    root-rises r l =
        let a : 0 + r ≡ r = omega arith in
        let b : 0 + suc r ≡ suc r = omega arith in
        subst (λ (z : ℕ). R z < R (suc r)) a (subst (λ (z : ℕ). R (0 + r) < R z) b (roots-rise n 0 m 0 listed r l))

    pub orphan-root : (x : ℕ) → x < n → parent_at nd x ≡ none → (r : ℕ) × (r < m) × (R r ≡ x)
    orphan-root x l p =
        let w = roots-found n 0 m 0 listed x (omega arith) (omega arith) p in
        let o : 0 + w.0 ≡ w.0 = omega arith in
        (w.0, w.1, subst (λ (z : ℕ). R z ≡ x) o w.2)

    -- node 0, if there is one, is the first root
    pub root-zero : 0 < m → parent_at nd 0 ≡ none → R 0 ≡ 0
    root-zero l p = zero-first n m listed l p
