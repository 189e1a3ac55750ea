-- A number in groups of seven bits, lowest first; the top bit of a byte is set when another follows.
use Rattle.std.specs.Prelude.{◌+◌, ◌-◌, ◌*◌, ◌/◌, ◌%◌, ◌<◌, ◌&&◌, ◌∷◌, Option, Some, None}
use Rattle.lists.specs.Prelude.{ℕ, zero, suc, Bool, true, false, not, List, [], drop, ltb, eqb, pick}

-- a group in front
abbrev pub grouped : ℕ → Option (ℕ × ℕ) → Option (ℕ × ℕ)
grouped d (Some (v, n)) = Some (d + 0x80 * v, suc n)
grouped d None = None

-- the number that bytes begin with, of at most so many groups; `only`: no group came before, and so the last may be 0
unfoldable pub groups_from : (groups : ℕ) → (only : Bool) → List ℕ → Option (ℕ × ℕ)
groups_from zero only bs = None
groups_from (suc g) only [] = None
groups_from (suc g) only (b ∷ bs) = pick (ltb b 0x80) (pick (not only && eqb b 0) None (Some (b, 1))) (grouped (b - 0x80) (groups_from g false bs))

-- at most four groups, from a place on
unfoldable pub numeral_at : List ℕ → ℕ → Option (ℕ × ℕ)
numeral_at s at = groups_from 4 true (drop at s)

-- the groups of a number, at most so many of them
unfoldable pub groups_of : (groups : ℕ) → ℕ → List ℕ
groups_of zero n = []
groups_of (suc g) n = pick (ltb n 0x80) (n ∷ []) ((0x80 + n % 0x80) ∷ groups_of g (n / 0x80))

-- the bytes of a number
unfoldable pub spelled : ℕ → List ℕ
spelled n = groups_of 4 n

-- what four groups hold
abbrev pub numeral_limit : ℕ
numeral_limit = 268435456

-- a number that was read is below a limit
abbrev pub Below : ℕ → Option (ℕ × ℕ) → Type 0
Below limit (Some (v, n)) = v < limit
Below limit None = Unit {0}
