-- What the list says of identifiers that have no place. Assumes nothing.
use Rattle.lists.proofs.Prelude.{ℕ, ◌≤◌, ◌≡◌, refl, sym, Bool, true, false, ◌&&◌, List, [], ◌∷◌, eqb, arith, and-false, false≢true}
use Rattle.lists.specs.All.{All}
use Rattle.lists.proofs.Tests.{and_both}
use Rattle.lists.specs.Same.{same}
use Rattle.ff4_index.specs.Listed.{IndexRow, ff4, unlisted, entry_in, entry_of, row_listed}
use Rattle.ff4_index.specs.Places.{index_place}
use Rattle.ff4_index.proofs.Placed.{Upper}

-- at most two letters
abbrev short : List ℕ → Bool
short [] = true
short (a ∷ []) = true
short (a ∷ b ∷ []) = true
short (a ∷ b ∷ c ∷ r) = false

abbrev all_short : List IndexRow → Bool
all_short [] = true
all_short (r ∷ rs) = short r.letters && all_short rs

short-other : (l : List ℕ) → short l ≡ true → (a b c : ℕ) (r : List ℕ) → same l (a ∷ b ∷ c ∷ r) ≡ false
short-other [] h a b c r = refl
short-other (x ∷ []) h a b c r = and-false (eqb x a)
short-other (x ∷ y ∷ []) h a b c r = rw (and-false (eqb y b)) (and-false (eqb x a))
short-other (x ∷ y ∷ z ∷ l) h a b c r = absurd (false≢true h)

long-unlisted : (rs : List IndexRow) → all_short rs ≡ true → (a b c : ℕ) (r : List ℕ)
    → (entry_in rs (a ∷ b ∷ c ∷ r) ≡ unlisted) × (row_listed rs (a ∷ b ∷ c ∷ r) ≡ false)
long-unlisted [] h a b c r = (refl, refl)
long-unlisted (x ∷ rs) h a b c r =
    let v = and_both (short x.letters) (all_short rs) h in
    let e = short-other x.letters v.0 a b c r in
    let u = long-unlisted rs v.1 a b c r in
    (rw e u.0, rw e u.1)

-- an identifier without a place is not listed
pub no_place : (l : List ℕ) → All Upper l → 702 ≤ index_place l → unlisted ≡ entry_of l
unfolding entry_of
no_place [] h q = refl
no_place (a ∷ []) h q = absurd (omega (arith, h.0.1, q))
no_place (a ∷ b ∷ []) h q = absurd (omega (arith, h.0.1, h.1.0.1, q))
no_place (a ∷ b ∷ c ∷ r) h q = sym (long-unlisted ff4 refl a b c r).0
