-- The points of a set, listed one by one, are the set. Assumes nothing.
use Rattle.lists.proofs.Prelude.{ℕ, zero, suc, ◌+◌, ◌*◌, ◌/◌, ◌%◌, ◌≤◌, ◌<◌, ◌≡◌, refl, sym, ap, ap₂, ◌∙◌, Bool, true, false, ◌&&◌, ◌||◌, and-true, and-false, or-false, false≢true, List, [], ◌∷◌, arith, eqb, length, get_or, eq-eqb, ne_eqb}
use Rattle.lists.specs.All.{All}
use Rattle.values.specs.Read.{read_value}
use Rattle.values.proofs.Safe.{Safe}
use Rattle.go_points.specs.Area.{area_of}
use Rattle.go.specs.Marks.{good, in_area, all_good, in_some}
use Rattle.go.specs.Normal.{point_text, points_from}
use Rattle.go.specs.Value.{marked, areas_of, points_of}
use Rattle.go.proofs.Adding.{cell-is}
use Rattle.go_points.proofs.Letters.{point-safe, area-back}
use Rattle.go.proofs.Marked.{marks-are}

module _ (i : ℕ) (h : i < 2704) where
  point-good : good (area_of (read_value (point_text i))) ≡ true
  point-good = ap good (area-back (i / 52) (i % 52) (omega arith) (omega arith))

  point-is : (j : ℕ) → in_area (area_of (read_value (point_text i))) j ≡ eqb i j
  point-is j =
      let e : 52 * (i / 52) + i % 52 ≡ i = omega arith in
      ap (λ a. in_area a j) (area-back (i / 52) (i % 52) (omega arith) (omega arith)) ∙ cell-is (i / 52) (i % 52) (omega arith) j ∙ ap (λ k. eqb k j) e

-- whether place j is marked in marks that begin at place i
abbrev marked_at : ℕ → List Bool → ℕ → Bool
marked_at i [] j = false
marked_at i (m ∷ ms) j = (m && eqb i j) || marked_at (suc i) ms j

marked-below : (i : ℕ) (ms : List Bool) (j : ℕ) → j < i → marked_at i ms j ≡ false
marked-below i [] j h = refl
marked-below i (m ∷ ms) j h = ap₂ ◌||◌ (ap (λ t. m && t) (ne_eqb i j (λ e. omega arith)) ∙ and-false m) (marked-below (suc i) ms j (omega arith))

marked-at : (i : ℕ) (ms : List Bool) (k : ℕ) → marked_at i ms (i + k) ≡ get_or ms k false
marked-at i [] k = refl
marked-at i (m ∷ ms) zero =
    ap₂ ◌||◌ (ap (λ t. m && t) (eq-eqb i (i + 0) (omega arith)) ∙ and-true m) (marked-below (suc i) ms (i + 0) (omega arith)) ∙ or-false m
marked-at i (m ∷ ms) (suc k) =
    let e : i + suc k ≡ suc i + k = omega arith in
    ap₂ ◌||◌ (ap (λ t. m && t) (ne_eqb i (i + suc k) (λ q. omega arith)) ∙ and-false m) (ap (marked_at (suc i) ms) e ∙ marked-at (suc i) ms k)

points-in : (i : ℕ) (ms : List Bool) → i + length ms ≤ 2704 → (j : ℕ) → in_some (areas_of (points_from i ms)) j ≡ marked_at i ms j
unfolding points_from
points-in i [] h j = refl
points-in i (true ∷ ms) h j = ap₂ ◌||◌ (point-is i (omega arith) j) (points-in (suc i) ms (omega arith) j)
points-in i (false ∷ ms) h j = points-in (suc i) ms (omega arith) j

points-good : (i : ℕ) (ms : List Bool) → i + length ms ≤ 2704 → all_good (areas_of (points_from i ms)) ≡ true
unfolding points_from
points-good i [] h = refl
points-good i (true ∷ ms) h = ap₂ ◌&&◌ (point-good i (omega arith)) (points-good (suc i) ms (omega arith))
points-good i (false ∷ ms) h = points-good (suc i) ms (omega arith)

pub points-safe : (i : ℕ) (ms : List Bool) → i + length ms ≤ 2704 → All (All Safe) (points_from i ms)
unfolding points_from
points-safe i [] h = tt
points-safe i (true ∷ ms) h = (point-safe (i / 52) (i % 52) (omega arith) (omega arith), points-safe (suc i) ms (omega arith))
points-safe i (false ∷ ms) h = points-safe (suc i) ms (omega arith)

-- a marked place is listed
pub points-some : (i : ℕ) (ms : List Bool) (k : ℕ) → get_or ms k false ≡ true → 0 < length (points_from i ms)
unfolding points_from
points-some i [] k e = absurd (false≢true e)
points-some i (true ∷ ms) k e = omega arith
points-some i (false ∷ ms) zero e = absurd (false≢true e)
points-some i (false ∷ ms) (suc k) e = points-some (suc i) ms k e

pub points-back : (ms : List Bool) → length ms ≡ 2704 → points_of (points_from 0 ms) ≡ marked ms
unfolding points_of
points-back ms l =
    let f : (i : ℕ) → get_or ms i false ≡ in_some (areas_of (points_from 0 ms)) i =
    λ i. let e : 0 + i ≡ i = omega arith in sym (points-in 0 ms (omega arith) i ∙ ap (marked_at 0 ms) (sym e) ∙ marked-at 0 ms i) in
    rw (points-good 0 ms (omega arith)) (ap marked (sym (marks-are ms (in_some (areas_of (points_from 0 ms))) l f)))
