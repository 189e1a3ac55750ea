-- Places and identifiers: one to one; the place counted letter by letter. Assumes nothing.
use Rattle.lists.proofs.Prelude.{ℕ, ◌+◌, ◌-◌, ◌*◌, ◌/◌, ◌%◌, ◌≤◌, ◌<◌, ◌≡◌, refl, ap, Bool, true, false, ◌&&◌, List, [], ◌∷◌, leb, ltb, eqb, pick, length, get_or, drop, arith, leb-true, lt-ltb, le-ltb, ne_eqb, ltb-false}
use Rattle.lists.specs.All.{All}
use Rattle.lists.proofs.Tests.{and_both}
use Rattle.values.specs.Read.{read_identifier}
use Rattle.go_shape.proofs.Identifiers.{letter-past, letter-here, letter-on}
use Rattle.ff4_index.specs.Places.{index_place, letters_at}
use Rattle.ff4_index.specs.Locals.{place_from}

-- an uppercase letter
abbrev pub Upper : ℕ → Type 0
Upper b = (0x41 ≤ b) × (b ≤ 0x5a)

pub letters-upper : (s : List ℕ) → All Upper (read_identifier s)
unfolding read_identifier
letters-upper [] = tt
letters-upper (b ∷ bs) = go (leb 0x41 b && leb b 0x5a) refl (letters-upper bs)
  where
    go : (t : Bool) → (leb 0x41 b && leb b 0x5a) ≡ t → All Upper (read_identifier bs) → All Upper (pick t (b ∷ read_identifier bs) (read_identifier bs))
    go true e h = let u = and_both (leb 0x41 b) (leb b 0x5a) e in ((leb-true 0x41 b u.0, leb-true b 0x5a u.1), h)
    go false e h = h

pub place_is : (l : List ℕ) → All Upper l → place_from 0 l ≡ index_place l
unfolding place_from
place_is [] h = refl
place_is (a ∷ []) h =
    let z : eqb (0 * 26 + (a - 0x40)) 0 ≡ false = ne_eqb (0 * 26 + (a - 0x40)) 0 (λ e. omega (arith, h.0.0, e)) in
    rw z (omega (arith, h.0.0))
place_is (a ∷ b ∷ []) h =
    let l : ltb 26 (0 * 26 + (a - 0x40)) ≡ false = le-ltb 26 (0 * 26 + (a - 0x40)) (omega (arith, h.0.1)) in
    let z : eqb ((0 * 26 + (a - 0x40)) * 26 + (b - 0x40)) 0 ≡ false = ne_eqb ((0 * 26 + (a - 0x40)) * 26 + (b - 0x40)) 0 (λ e. omega (arith, h.1.0.0, e)) in
    rw (l, z) (omega (arith, h.0.0, h.1.0.0))
place_is (a ∷ b ∷ c ∷ r) h =
    let l : ltb 26 (0 * 26 + (a - 0x40)) ≡ false = le-ltb 26 (0 * 26 + (a - 0x40)) (omega (arith, h.0.1)) in
    let m : ltb 26 ((0 * 26 + (a - 0x40)) * 26 + (b - 0x40)) ≡ true = lt-ltb 26 ((0 * 26 + (a - 0x40)) * 26 + (b - 0x40)) (omega (arith, h.0.0, h.1.0.0)) in
    rw (l, m)

-- a place is below 702 for one letter and for two
pub place-below : (l : List ℕ) → All Upper l → (index_place l < 702 → letters_at (index_place l) ≡ l)
place-below [] h q = absurd (omega (arith, q))
place-below (a ∷ []) h q =
    let l : ltb (a - 0x41) 26 ≡ true = lt-ltb (a - 0x41) 26 (omega (arith, h.0.1)) in
    let e : 0x41 + (a - 0x41) ≡ a = omega (arith, h.0.0) in
    rw (l, e)
place-below (a ∷ b ∷ []) h q =
    let l : ltb (26 + (a - 0x41) * 26 + (b - 0x41)) 26 ≡ false = le-ltb (26 + (a - 0x41) * 26 + (b - 0x41)) 26 (omega arith) in
    let d : 0x41 + (26 + (a - 0x41) * 26 + (b - 0x41) - 26) / 26 ≡ a = omega (arith, h.0.0, h.1.0.0, h.1.0.1) in
    let m : 0x41 + (26 + (a - 0x41) * 26 + (b - 0x41) - 26) % 26 ≡ b = omega (arith, h.0.0, h.1.0.0, h.1.0.1) in
    rw (l, d, m)
place-below (a ∷ b ∷ c ∷ r) h q = absurd (omega (arith, q))

-- the place of the identifier of a place
pub place-letters : (i : ℕ) → i < 702 → index_place (letters_at i) ≡ i
place-letters i h = go (ltb i 26) refl
  where
    go : (t : Bool) → ltb i 26 ≡ t → index_place (pick t ((0x41 + i) ∷ []) ((0x41 + (i - 26) / 26) ∷ (0x41 + (i - 26) % 26) ∷ [])) ≡ i
    go true e = omega arith
    go false e = omega (arith, ltb-false i 26 e, h)

module _ (s : List ℕ) (at n : ℕ) where
  pub place_end : length s ≤ at → place_from n (read_identifier (drop at s)) ≡ pick (eqb n 0) 702 (n - 1)
  unfolding place_from
  place_end h = rw (letter-past s at h)

  module _ (h : at < length s) where
    pub place-on : (leb 0x41 (get_or s at 0) && leb (get_or s at 0) 0x5a) ≡ false → place_from n (read_identifier (drop at s)) ≡ place_from n (read_identifier (drop (at + 1) s))
    place-on e = ap (place_from n) (letter-on s at h e)

    pub place_out : (leb 0x41 (get_or s at 0) && leb (get_or s at 0) 0x5a) ≡ true → 26 < n → place_from n (read_identifier (drop at s)) ≡ 702
    unfolding place_from
    place_out e l = rw (letter-here s at h e, lt-ltb 26 n l)

    pub place-more : (leb 0x41 (get_or s at 0) && leb (get_or s at 0) 0x5a) ≡ true → n ≤ 26
        → place_from n (read_identifier (drop at s)) ≡ place_from (n * 26 + (get_or s at 0 - 0x40)) (read_identifier (drop (at + 1) s))
    unfolding place_from
    place-more e l = rw (letter-here s at h e, le-ltb 26 n l)
