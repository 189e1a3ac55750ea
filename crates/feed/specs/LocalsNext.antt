-- What one correction promises to the loops over a feed.
use Rattle.std.specs.Prelude.{◌≤◌, ◌<◌, Option, Some, None}
use Rattle.lists.specs.Prelude.{ℕ, List, length}

-- its number is not below `low` and below a limit, and its bytes lie in the feed
abbrev pub Lies : List ℕ → (low limit : ℕ) → Option (ℕ × ℕ × ℕ) → Type 0
Lies w low limit (Some (v, a, e)) = (low ≤ v) × (v < limit) × (a ≤ e) × (e ≤ length w)
Lies w low limit None = Unit {0}
