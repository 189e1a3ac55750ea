-- Bytes written into lent memory, as far as it has room.
use Rattle.std.specs.Prelude.{◌+◌, ◌-◌, ◌^◌, ◌≡◌}
use Rattle.lists.specs.Prelude.{ℕ, min, List, length, sets}

-- w is stored byte by byte from `at` on, and what falls beyond the end is not; the place after it counts up to 2 ^ 64 - 1
pub record Wrote (w out : List ℕ) (at : ℕ) (out' : List ℕ) (next : ℕ) : Type 0 where
  pub place : next ≡ min (at + length w) (2 ^ 64 - 1)
  pub bytes : out' ≡ sets out at w
