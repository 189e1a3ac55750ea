-- Decimals: an optional sign and digits, over the largest number `most`. i32 has 2 ^ 31 - 1, i64 has 2 ^ 63 - 1.
use Rattle.std.specs.Prelude.{◌+◌, ◌-◌, ◌*◌, ◌/◌, ◌%◌, ◌&&◌, ◌∷◌}
use Rattle.lists.specs.Prelude.{ℕ, zero, suc, Bool, true, false, List, [], leb, ltb, eqb, pick}
use Rattle.values.specs.declared.decimal.Number.{Number}
use Rattle.values.specs.declared.decimal.Number.TheVariants.{Bad, Plus, Minus}

-- the digit that a byte is, or 10
unfoldable pub digit_of : ℕ → ℕ
digit_of b = pick (leb 0x30 b && leb b 0x39) (b - 0x30) 10

-- a number with its sign
abbrev pub signed : Bool → ℕ → Number
signed true n = Minus n
signed false n = Plus n

-- what digits after those of `acc` spell, at most `most`; any: a digit came before
unfoldable pub digits_from : (any minus : Bool) (most acc : ℕ) → List ℕ → Number
digits_from any minus most acc [] = pick (any && leb acc most) (signed minus acc) Bad
digits_from any minus most acc (b ∷ bs) = pick (leb (digit_of b) 9) (digits_from true minus most (acc * 10 + digit_of b) bs) Bad

-- `+` or `-` or no sign, and at least one digit: from -(most + 1) to most (SCOPE 85, 101)
unfoldable pub decimal_of : ℕ → List ℕ → Number
decimal_of most [] = Bad
decimal_of most (b ∷ bs) =
    pick (eqb b 0x2b) (digits_from false false most 0 bs)
    (pick (eqb b 0x2d) (digits_from false true (most + 1) 0 bs) (digits_from false false most 0 (b ∷ bs)))

-- the digits of n before `rest`, at most k of them
unfoldable pub spell : (k n : ℕ) → List ℕ → List ℕ
spell zero n rest = rest
spell (suc k) n rest = pick (ltb n 10) ((0x30 + n % 10) ∷ rest) (spell k (n / 10) ((0x30 + n % 10) ∷ rest))

-- plain decimal; a u64 has at most 20 digits (SCOPE 112)
unfoldable pub decimal : ℕ → List ℕ
decimal n = spell 20 n []
