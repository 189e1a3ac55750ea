-- What is written reads back, over the number of digits and the bound. Assumes nothing.
use Rattle.lists.proofs.Prelude.{ℕ, zero, suc, ◌+◌, ◌*◌, ◌/◌, ◌%◌, ◌^◌, ◌≤◌, ◌<◌, ◌≡◌, ap, ◌∙◌, Bool, true, false, List, [], ◌∷◌, pow-suc, arith, ltb, ltb-true, le-leb, ne_eqb}
use Rattle.lists.proofs.Pick.{pick-elim}
use Rattle.values.specs.Read.{read_value}
use Rattle.values.specs.Decimal.{digit_of, digits_from, decimal_of, spell, decimal}
use Rattle.values.specs.declared.decimal.Number.TheVariants.{Plus}
use Rattle.values.proofs.Safe.{read-safe, decimal-safe}

digit-back : (d : ℕ) → d < 10 → digit_of (0x30 + d) ≡ d
unfolding digit_of
digit-back d h = rw (le-leb 0x30 (0x30 + d) (omega arith), le-leb (0x30 + d) 0x39 (omega arith)) (omega arith)

module _ (any minus : Bool) (most : ℕ) where
  digits-one : (acc d : ℕ) (rest : List ℕ) → d < 10 → digits_from any minus most acc ((0x30 + d) ∷ rest) ≡ digits_from true minus most (acc * 10 + d) rest
  unfolding digits_from
  digits-one acc d rest h = rw (digit-back d h, le-leb d 9 (omega arith))

  digits_last : (n : ℕ) (rest : List ℕ) → n < 10 → digits_from any minus most 0 ((0x30 + n % 10) ∷ rest) ≡ digits_from true minus most n rest
  digits_last n rest h =
      let e : 0 * 10 + n % 10 ≡ n = omega arith in
      digits-one 0 (n % 10) rest (omega arith) ∙ ap (λ v. digits_from true minus most v rest) e

-- digits read back, whatever follows them
pub digits-spell : (k : ℕ) (any minus : Bool) (most n : ℕ) (rest : List ℕ) → n < 10 ^ suc k
    → digits_from any minus most 0 (spell (suc k) n rest) ≡ digits_from true minus most n rest
unfolding spell
digits-spell zero any minus most n rest h =
    pick-elim (λ z. digits_from any minus most 0 z ≡ digits_from true minus most n rest) (ltb n 10)
    (λ e. digits_last any minus most n rest (omega arith)) (λ e. digits_last any minus most n rest (omega arith))
digits-spell (suc k) any minus most n rest h =
    let h2 : n < 10 ^ suc k * 10 = rw pow-suc at h in
    let v : n / 10 * 10 + n % 10 ≡ n = omega arith in
    pick-elim (λ z. digits_from any minus most 0 z ≡ digits_from true minus most n rest) (ltb n 10)
    (λ e. digits_last any minus most n rest (ltb-true n 10 e))
    (λ e.
    digits-spell k any minus most (n / 10) ((0x30 + n % 10) ∷ rest) (omega arith)
    ∙ digits-one true minus most (n / 10) (n % 10) rest (omega arith)
    ∙ ap (λ v. digits_from true minus most v rest) v)

-- a digit is no sign
unsigned : (most n : ℕ) (rest : List ℕ) → decimal_of most ((0x30 + n % 10) ∷ rest) ≡ digits_from false false most 0 ((0x30 + n % 10) ∷ rest)
unfolding decimal_of
unsigned most n rest = simp (ne_eqb (0x30 + n % 10) 0x2b (omega arith), ne_eqb (0x30 + n % 10) 0x2d (omega arith))

spell-unsigned : (most k n m : ℕ) (rest : List ℕ)
    → decimal_of most (spell k n ((0x30 + m % 10) ∷ rest)) ≡ digits_from false false most 0 (spell k n ((0x30 + m % 10) ∷ rest))
unfolding spell
spell-unsigned most zero n m rest = unsigned most m rest
spell-unsigned most (suc k) n m rest =
    pick-elim (λ z. decimal_of most z ≡ digits_from false false most 0 z) (ltb n 10)
    (λ e. unsigned most n ((0x30 + m % 10) ∷ rest)) (λ e. spell-unsigned most k (n / 10) n ((0x30 + m % 10) ∷ rest))

decimal-unsigned : (most n : ℕ) → decimal_of most (decimal n) ≡ digits_from false false most 0 (decimal n)
unfolding decimal spell
decimal-unsigned most n =
    pick-elim (λ z. decimal_of most z ≡ digits_from false false most 0 z) (ltb n 10) (λ e. unsigned most n []) (λ e. spell-unsigned most 19 (n / 10) n [])

-- every number within the bound
pub decimal-back : (most n : ℕ) → n ≤ most → n < 2 ^ 64 → decimal_of most (read_value (decimal n)) ≡ Plus n
unfolding decimal digits_from
decimal-back most n h w =
    ap (decimal_of most) (read-safe (decimal n) (decimal-safe n)) ∙ decimal-unsigned most n ∙ digits-spell 19 false false most n [] (omega arith) ∙ simp (le-leb n most h)
