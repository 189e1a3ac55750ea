-- What the programs say of a number, of a refusal and of a span, in bytes.
use Rattle.std.specs.Prelude.{◌∷◌, ◌++◌}
use Rattle.lists.specs.Prelude.{ℕ, List, []}
use Rattle.values.specs.Decimal.{decimal}

-- words and a number
abbrev pub counted : (words : List ℕ) (n : ℕ) → List ℕ
counted words n = words ++ decimal n

-- `refused `, the number, ` at `, the place
abbrev pub refused : (number place : ℕ) → List ℕ
refused number place = counted (0x72 ∷ 0x65 ∷ 0x66 ∷ 0x75 ∷ 0x73 ∷ 0x65 ∷ 0x64 ∷ 0x20 ∷ []) number ++ counted (0x20 ∷ 0x61 ∷ 0x74 ∷ 0x20 ∷ []) place

-- the first place, `..`, the one behind the last
abbrev pub spanned : (from to : ℕ) → List ℕ
spanned from to = decimal from ++ counted (0x2e ∷ 0x2e ∷ []) to
