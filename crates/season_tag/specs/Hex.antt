-- A number below 2 ^ 64 as 16 hex digits, highest first.
use Rattle.std.specs.Prelude.{◌+◌, ◌-◌, ◌*◌, ◌/◌, ◌%◌, ◌^◌, ◌∷◌}
use Rattle.lists.specs.Prelude.{ℕ, zero, suc, List, [], ltb, pick}

-- the letter of a digit: 0 to 9, then a to f
unfoldable pub hex_digit : ℕ → ℕ
hex_digit d = pick (ltb d 10) (48 + d) (87 + d)

-- the last k digits of n, highest first
abbrev pub hex_digits : ℕ → ℕ → List ℕ
hex_digits zero n = []
hex_digits (suc k) n = hex_digit (n / 16 ^ k % 16) ∷ hex_digits k n

-- all 16 digits, highest first
unfoldable pub hex_of : ℕ → List ℕ
hex_of n = hex_digits 16 n

-- the digit that a letter stands for
unfoldable pub digit_back : ℕ → ℕ
digit_back b = pick (ltb b 58) (b - 48) (b - 87)

-- what digits say, the highest first, behind what was read before
abbrev pub hex_from : ℕ → List ℕ → ℕ
hex_from n [] = n
hex_from n (b ∷ bs) = hex_from (n * 16 + digit_back b) bs
