-- A depth is a distance from the root: as many as there are steps up to a node that has no parent before it. Assumes nothing.
use Rattle.lists.proofs.Prelude.{ℕ, zero, suc, ◌≤◌, ◌<◌, ◌≡◌, refl, sym, ap, ◌∙◌, Bool, true, false, List, arith, ltb, lt-ltb, le-ltb, ltb-true, length, get_or, pick}
use Rattle.tables.specs.Rows.{depths}
use Rattle.tables.proofs.Cases.{below_or}
use Rattle.tables.proofs.Depths.{depths-root, depths-child}

-- p gives parents; steps up from k, at most so many
unfoldable pub climb : (p : ℕ → ℕ) → (fuel k : ℕ) → ℕ
climb p zero k = 0
climb p (suc f) k = pick (ltb (p k) k) (suc (climb p f (p k))) 0

-- a parent stands before its child, so there are at most k above k
abbrev pub distance : (p : ℕ → ℕ) → ℕ → ℕ
distance p k = climb p k k

module _ (p : ℕ → ℕ) where
  climb-root : (f k : ℕ) → k ≤ p k → climb p f k ≡ 0
  unfolding climb
  climb-root zero k h = refl
  climb-root (suc f) k h = rw (le-ltb (p k) k h)

  climb-enough : (f g k : ℕ) → k ≤ f → k ≤ g → climb p f k ≡ climb p g k
  unfolding climb
  climb-enough zero g k a b = sym (climb-root g k (omega (arith, a)))
  climb-enough (suc f) zero k a b = climb-root (suc f) k (omega (arith, b))
  climb-enough (suc f) (suc g) k a b = go (ltb (p k) k) refl (λ x y. climb-enough f g (p k) x y)
    where
      go : (t : Bool) → ltb (p k) k ≡ t → (p k ≤ f → p k ≤ g → climb p f (p k) ≡ climb p g (p k)) → pick t (suc (climb p f (p k))) 0 ≡ pick t (suc (climb p g (p k))) 0
      go true e h = let l = ltb-true (p k) k e in ap suc (h (omega (arith, l, a)) (omega (arith, l, b)))
      go false e h = refl

  pub distance-root : (k : ℕ) → k ≤ p k → distance p k ≡ 0
  distance-root k h = climb-root k k h

  pub distance-child : (k : ℕ) → p k < k → distance p k ≡ suc (distance p (p k))
  unfolding climb
  distance-child zero h = absurd (omega (arith, h))
  distance-child (suc j) h = rw (lt-ltb (p (suc j)) (suc j) h) (ap suc (climb-enough j (p (suc j)) (p (suc j)) (omega (arith, h)) (omega arith)))

module _ (ps : List ℕ) where
  distances-under : (m k : ℕ) → k < m → k < length ps → get_or (depths ps) k 0 ≡ distance (λ j. get_or ps j 0) k
  distances-under zero k a l = absurd (omega arith)
  distances-under (suc m) k a l =
      below_or (get_or ps k 0) k
      (λ b. depths-child ps k l b ∙ ap suc (distances-under m (get_or ps k 0) (omega arith) (omega arith)) ∙ sym (distance-child (λ j. get_or ps j 0) k b))
      (λ b. depths-root ps k l b ∙ sym (distance-root (λ j. get_or ps j 0) k b))

  pub depths-distance : (k : ℕ) → k < length ps → get_or (depths ps) k 0 ≡ distance (λ j. get_or ps j 0) k
  depths-distance k l = distances-under (suc k) k (omega arith) l
