-- What a walk over the corrections of a feed promises its users.
use Rattle.std.specs.Prelude.{◌+◌, ◌-◌, ◌≤◌, ◌<◌, ◌≡◌, Option, Some, None}
use Rattle.lists.specs.Prelude.{ℕ, List, length}
use Rattle.feed.specs.Feed.{listing, entries_from}
use Rattle.feed.specs.Find.{found_in}
use Rattle.feed_apply.specs.declared.along.Along.{Along}

-- how long a value is that has `old` bytes and this correction
abbrev pub size_for : Option (ℕ × ℕ) → (old : ℕ) → ℕ
size_for (Some (a, e)) old = e - a
size_for None old = old

-- no value from `low` on and below `high` is corrected
abbrev pub Uncorrected : List ℕ → (low high : ℕ) → Type 0
Uncorrected w low high = (j : ℕ) → low ≤ j → j < high → found_in (listing w).entries j ≡ None

-- the values from `low` on and below n are corrected by `left` corrections from a place on
abbrev pub Ahead : List ℕ → (n left low at : ℕ) → Type 0
Ahead w n left low at = (j : ℕ) → low ≤ j → j < n → found_in (listing w).entries j ≡ found_in (entries_from w left low at).entries j

-- the walk stands at the correction of value `due`, or, where that is n, behind those of all values below n
pub record Stands (w : List ℕ) (n : ℕ) (s : Along) : Type 0 where
  pub bound : s.due ≤ n
  pub here : s.due < n → found_in (listing w).entries s.due ≡ Some (s.from, s.to)
  pub ahead : s.due < n → Ahead w n s.left (s.due + 1) s.to
  pub order : s.from ≤ s.to
  pub inside : s.to ≤ length w
  pub paid : s.grown ≤ s.from
