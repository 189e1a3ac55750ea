-- What the steps of the check promise each other.
use Rattle.std.specs.Prelude.{◌+◌, ◌≤◌, ◌<◌, Result, Err, ⊤}
use Rattle.lists.specs.Prelude.{ℕ, Bool, not, List, pick}
use Rattle.tables.specs.Columns.{first_val_at, val_count_at}
use Rattle.feed_check.specs.declared.FeedRefusal.TheVariants.{NoSuchNumber, GameTypeFixed}
use Rattle.tables.specs.Refusals.{refusal}
use Rattle.feed_check.specs.declared.FeedRefusal.{FeedRefusal}
use Rattle.tables.specs.declared.Refusal.{Refusal}

-- no property before p has value k, nor one behind it
abbrev pub Behind : List ℕ → (n p k : ℕ) → Type 0
Behind pr n p k = (p ≤ n) × ((i : ℕ) → i < p → first_val_at pr i + val_count_at pr i ≤ k)

-- property p, where there is one, has value k or one behind it
abbrev pub Holds : List ℕ → (n p k : ℕ) → Type 0
Holds pr n p k = p < n → k < first_val_at pr p + val_count_at pr p

-- a correction by its tests: is its number known, is its property the game type, its bytes
abbrev pub tested_by : (known fixed : Bool) → Result ⊤ (Refusal FeedRefusal) → Result ⊤ (Refusal FeedRefusal)
tested_by known fixed r = pick (not known) (Err (refusal NoSuchNumber 0)) (pick fixed (Err (refusal GameTypeFixed 0)) r)
