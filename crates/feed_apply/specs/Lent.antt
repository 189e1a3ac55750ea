-- A feed applied in lent memory: the answer, and all that memory holds after it.
use Rattle.std.specs.Prelude.{◌≡◌, Result, Ok, Err}
use Rattle.lists.specs.Prelude.{ℕ, List, length}
use Rattle.tables.specs.Memory.{Memory}
use Rattle.feed_laws.specs.Applied.{Applying, refusing, applying, feed_applied, memory_applied}
use Rattle.tables.specs.Refusals.{refusal}
use Rattle.feed_check.specs.declared.FeedRefusal.{FeedRefusal}
use Rattle.tables.specs.declared.Refusal.{Refusal}

-- what is answered: the new used length, or the refusal and the place
abbrev pub applied_for : Applying → Result ℕ (Refusal FeedRefusal)
applied_for (refusing f p) = Err (refusal f p)
applied_for (applying t T) = Ok (length t)

-- the answer, and all of that memory
pub record ApplyIs (m m' : Memory) (feed : List ℕ) (r : Result ℕ (Refusal FeedRefusal)) : Type 0 where
  pub answer : r ≡ applied_for (feed_applied m feed)
  pub memory : m' ≡ memory_applied (feed_applied m feed) m
