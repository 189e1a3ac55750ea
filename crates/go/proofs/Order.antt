-- The points of a set are listed by first coordinate, then second, each once. Assumes nothing.
use Rattle.lists.proofs.Prelude.{ℕ, suc, ◌/◌, ◌%◌, ◌≤◌, ◌<◌, Bool, true, false, List, [], ◌∷◌, map, ◌⊎◌, inl, inr, ◌≡◌, refl, ap, arith, ltb, ltb-true, ltb-false, pick}
use Rattle.go.specs.Normal.{point_text, points_from}

-- the marked places, where the first has number i
abbrev pub places : ℕ → List Bool → List ℕ
places i [] = []
places i (m ∷ ms) = let r = places (suc i) ms in pick m (i ∷ r) r

pub points-places : (i : ℕ) (ms : List Bool) → points_from i ms ≡ map point_text (places i ms)
unfolding points_from
points-places i [] = refl
points-places i (true ∷ ms) = ap (λ (z : List (List ℕ)). point_text i ∷ z) (points-places (suc i) ms)
points-places i (false ∷ ms) = points-places (suc i) ms

-- from k on, each number above the one before it
abbrev pub Rising : ℕ → List ℕ → Type 0
Rising k [] = Unit {0}
Rising k (x ∷ xs) = (k ≤ x) × Rising (suc x) xs

rising-from : (k : ℕ) (xs : List ℕ) → Rising (suc k) xs → Rising k xs
rising-from k [] h = tt
rising-from k (x ∷ xs) h = (omega (arith, h.0), h.1)

pub places-rise : (i : ℕ) (ms : List Bool) → Rising i (places i ms)
places-rise i [] = tt
places-rise i (true ∷ ms) = (omega arith, places-rise (suc i) ms)
places-rise i (false ∷ ms) = rising-from i (places (suc i) ms) (places-rise (suc i) ms)

-- a later place has a greater first coordinate, or the same and a greater second
pub place-order : (i j : ℕ) → i < j → (i / 52 < j / 52) ⊎ ((i / 52 ≡ j / 52) × (i % 52 < j % 52))
place-order i j h = go (ltb (i / 52) (j / 52)) refl
  where
    go : (b : Bool) → ltb (i / 52) (j / 52) ≡ b → (i / 52 < j / 52) ⊎ ((i / 52 ≡ j / 52) × (i % 52 < j % 52))
    go true e = inl (ltb-true (i / 52) (j / 52) e)
    go false e = let l = ltb-false (i / 52) (j / 52) e in inr (omega arith, omega arith)
