-- What the steps of a replacement promise each other.
use Rattle.std.specs.Prelude.{◌+◌, ◌-◌, ◌≤◌}
use Rattle.lists.specs.Prelude.{ℕ, List, length}

-- a part of the first `used` bytes of a buffer
pub record Within (b : List ℕ) (used start end : ℕ) : Type 0 where
  pub order : start ≤ end
  pub inside : end ≤ used
  pub lent : used ≤ length b

-- and room for m bytes in its place
pub record Replaceable (b : List ℕ) (used start end m : ℕ) : Type 0 where
  pub within : Within b used start end
  pub room : start + m + (used - end) ≤ length b
