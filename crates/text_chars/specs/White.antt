-- Numbers in a range; white space.
use Rattle.std.specs.Prelude.{◌||◌, ◌&&◌}
use Rattle.lists.specs.Prelude.{ℕ, Bool, leb, eqb}

-- a number in lo..hi
abbrev pub within : ℕ → ℕ → ℕ → Bool
within lo hi n = leb lo n && leb n hi

-- Unicode White_Space: U+0009 to 000D, 0020, 0085, 00A0, 1680, 2000 to 200A, 2028, 2029, 202F, 205F, 3000 (SCOPE 68)
unfoldable pub white : ℕ → Bool
white c =
    within 0x9 0xd c || eqb c 0x20 || eqb c 0x85 || eqb c 0xa0 || eqb c 0x1680 || within 0x2000 0x200a c || within 0x2028 0x2029 c
    || eqb c 0x202f
    || eqb c 0x205f
    || eqb c 0x3000
