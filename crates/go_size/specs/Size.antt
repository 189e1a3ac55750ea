-- The size that one value says: one number, or two with one colon, each from 1 to 52.
use Rattle.std.specs.Prelude.{◌||◌, ◌∷◌, Option, Some, None}
use Rattle.lists.specs.Prelude.{ℕ, suc, Bool, false, List, [], eqb, pick}
use Rattle.values.specs.Decimal.{decimal_of}
use Rattle.values.specs.declared.decimal.Number.{Number}
use Rattle.values.specs.declared.decimal.Number.TheVariants as N

-- whether there is a colon
abbrev pub has_colon : List ℕ → Bool
has_colon [] = false
has_colon (x ∷ xs) = eqb x 0x3a || has_colon xs

-- the place of the first colon, or the length
abbrev pub colon_place : List ℕ → ℕ
colon_place [] = 0
colon_place (x ∷ xs) = pick (eqb x 0x3a) 0 (suc (colon_place xs))

-- what stands before the first colon
abbrev pub before_colon : List ℕ → List ℕ
before_colon [] = []
before_colon (x ∷ xs) = pick (eqb x 0x3a) [] (x ∷ before_colon xs)

-- what stands behind it
abbrev pub behind_colon : List ℕ → List ℕ
behind_colon [] = []
behind_colon (x ∷ xs) = pick (eqb x 0x3a) xs (behind_colon xs)

-- a number that is not negative, else 0
abbrev pub plus_of : Number → ℕ
plus_of N.Bad = 0
plus_of (N.Plus n) = n
plus_of (N.Minus n) = 0

-- a number from 1 to 52, else 0; a second colon is no digit
unfoldable pub side_of : List ℕ → ℕ
side_of v = plus_of (decimal_of 52 v)

-- two sides, none of them 0
unfoldable pub pair_of : ℕ → ℕ → Option (ℕ × ℕ)
pair_of x y = pick (eqb x 0 || eqb y 0) None (Some (x, y))

-- of a read value
unfoldable pub size_of : List ℕ → Option (ℕ × ℕ)
size_of v = pick (has_colon v) (pair_of (side_of (before_colon v)) (side_of (behind_colon v))) (pair_of (side_of v) (side_of v))
