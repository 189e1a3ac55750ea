-- How many places hold a colour, when one place changes. Assumes nothing.
use Rattle.lists.proofs.Prelude.{ℕ, zero, suc, ◌+◌, ◌<◌, Bool, true, false, ◌≡◌, refl, ap, List, [], ◌∷◌, length, pick, eqb, ne_eqb, eq-eqb, set, arith, not-suc-le-zero, le_of_suc-le-suc}
use Rattle.board_groups.specs.Board.{at, standing}

-- 1 where the two are equal, else 0
abbrev pub one : ℕ → ℕ → ℕ
one x c = pick (eqb x c) 1 0

first : (t : Bool) (n : ℕ) → pick t (suc n) n ≡ pick t 1 0 + n
first true n = omega arith
first false n = omega arith

pub standing-set : (c v : ℕ) (b : List ℕ) (p : ℕ) → p < length b → standing c (set b p v) + one (at b p) c ≡ standing c b + one v c
standing-set c v [] p h = absurd (not-suc-le-zero h)
standing-set c v (x ∷ b) zero h =
    omega (arith, first (eqb v c) (standing c b), first (eqb x c) (standing c b))
standing-set c v (x ∷ b) (suc p) h =
    omega (arith, first (eqb x c) (standing c (set b p v)), first (eqb x c) (standing c b), standing-set c v b p (le_of_suc-le-suc h))

-- a stone of the colour taken off
pub standing-off : (c : ℕ) (b : List ℕ) (p : ℕ) → p < length b → at b p ≡ c → (c ≡ 0 → ⊥) → standing c b ≡ suc (standing c (set b p 0))
standing-off c b p h e n =
    let x : one (at b p) c ≡ 1 = rw (eq-eqb (at b p) c e) in
    let y : one 0 c ≡ 0 = rw (ne_eqb 0 c (λ z. n (omega arith))) in
    omega (arith, standing-set c 0 b p h)

-- what stands somewhere stands at a place of the board
pub at-below : (b : List ℕ) (p : ℕ) → (at b p ≡ 0 → ⊥) → p < length b
at-below [] p f = absurd (f refl)
at-below (x ∷ b) zero f = omega arith
at-below (x ∷ b) (suc p) f = omega (arith, at-below b p f)

-- two boards that hold a colour at the same places hold it equally often
pub standing-alike : (c : ℕ) (b b' : List ℕ) → length b' ≡ length b → ((p : ℕ) → eqb (at b' p) c ≡ eqb (at b p) c) → standing c b' ≡ standing c b
standing-alike c [] [] l f = refl
standing-alike c [] (y ∷ b') l f = absurd (omega arith)
standing-alike c (x ∷ b) [] l f = absurd (omega arith)
standing-alike c (x ∷ b) (y ∷ b') l f =
    let same : length b' ≡ length b = omega arith in
    let k : one y c ≡ one x c = ap (λ (t : Bool). pick {A = ℕ} t 1 0) (f 0) in
    omega (arith, first (eqb y c) (standing c b'), first (eqb x c) (standing c b), standing-alike c b b' same (λ p. f (suc p)))
