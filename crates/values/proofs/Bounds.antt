-- A number that is read lies within the bound. Assumes nothing.
use Rattle.lists.proofs.Prelude.{ℕ, ◌+◌, ◌*◌, ◌≤◌, Bool, true, false, List, [], ◌∷◌, leb, eqb, leb-true}
use Rattle.lists.proofs.Pick.{pick-elim}
use Rattle.values.specs.Decimal.{digit_of, digits_from, decimal_of}
use Rattle.values.specs.declared.decimal.Number.{Number}
use Rattle.values.specs.declared.decimal.Number.TheVariants.{Bad, Plus, Minus}

-- from -(most + 1) to most
abbrev pub Within : ℕ → Number → Type 0
Within most Bad = Unit {0}
Within most (Plus n) = n ≤ most
Within most (Minus n) = n ≤ most + 1

-- a number of this sign, at most `most`
abbrev Sized : Bool → ℕ → Number → Type 0
Sized minus most Bad = Unit {0}
Sized true most (Plus n) = ⊥
Sized false most (Plus n) = n ≤ most
Sized true most (Minus n) = n ≤ most
Sized false most (Minus n) = ⊥

digits-sized : (any minus : Bool) (most acc : ℕ) (bs : List ℕ) → Sized minus most (digits_from any minus most acc bs)
unfolding digits_from
digits-sized true true most acc [] = pick-elim (Sized true most) (leb acc most) (λ e. leb-true acc most e) (λ e. tt)
digits-sized true false most acc [] = pick-elim (Sized false most) (leb acc most) (λ e. leb-true acc most e) (λ e. tt)
digits-sized false minus most acc [] = tt
digits-sized any minus most acc (b ∷ bs) =
    pick-elim (Sized minus most) (leb (digit_of b) 9) (λ e. digits-sized true minus most (acc * 10 + digit_of b) bs) (λ e. tt)

plus-within : (most : ℕ) (r : Number) → Sized false most r → Within most r
plus-within most Bad h = tt
plus-within most (Plus n) h = h
plus-within most (Minus n) h = absurd h

minus-within : (most : ℕ) (r : Number) → Sized true (most + 1) r → Within most r
minus-within most Bad h = tt
minus-within most (Plus n) h = absurd h
minus-within most (Minus n) h = h

pub decimal-within : (most : ℕ) (s : List ℕ) → Within most (decimal_of most s)
unfolding decimal_of
decimal-within most [] = tt
decimal-within most (b ∷ bs) =
    pick-elim (Within most) (eqb b 0x2b) (λ e. plus-within most (digits_from false false most 0 bs) (digits-sized false false most 0 bs))
    (λ e. pick-elim (Within most) (eqb b 0x2d) (λ f. minus-within most (digits_from false true (most + 1) 0 bs) (digits-sized false true (most + 1) 0 bs)) (λ f. plus-within most (digits_from false false most 0 (b ∷ bs)) (digits-sized false false most 0 (b ∷ bs))))
