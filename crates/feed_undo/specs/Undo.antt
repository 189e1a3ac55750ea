-- Feeds in a session: a feed as its edits, and the feed that undoes it.
use Rattle.std.specs.Prelude.{◌≤◌, ◌≡◌, Ok}
use Rattle.lists.specs.Prelude.{ℕ, List, map, length}
use Rattle.tables.specs.Memory.{Memory}
use Rattle.tables.specs.Numbers.{text_limit}
use Rattle.edit_answer.specs.Edit.{gives}
use Rattle.edit.specs.Lent.{memory_after}
use Rattle.edit_laws.specs.Calls.{memory_next}
use Rattle.edit_laws.specs.Run.{Order}
use Rattle.feed.specs.Feed.{Correction, corrections}
use Rattle.feed.specs.Made.{feed_bytes}
use Rattle.feed_check.specs.Check.{feed_checked}
use Rattle.feed_laid.specs.OfMemory.{own_bytes}
use Rattle.feed_laws.specs.Corrected.{corrected_text, corrected_rows}

-- a correction as an edit
abbrev pub order_of : Correction → Order
order_of c = record { value = c.value; bytes = c.bytes }

-- the edits of a feed, in its order (SCOPE 223)
abbrev pub feed_edits : (feed : List ℕ) → List Order
feed_edits w = map order_of (corrections w)

-- a feed is accepted as one: it passes the check, and the text as corrected is within the limit and the bytes lent
pub record TakesFeed (m : Memory) (feed : List ℕ) : Type 0 where
  pub passed : feed_checked m feed ≡ Ok tt
  pub short : length (corrected_text m feed) ≤ text_limit
  pub room : length (corrected_text m feed) ≤ length m.text

-- what the caller then has: the text as corrected and its rows, left as by one edit
abbrev pub memory_corrected : Memory → (feed : List ℕ) → Memory
memory_corrected m w = memory_next (memory_after (gives (corrected_text m w) (corrected_rows m w)) m) (Ok (length (corrected_text m w)))

-- the correction that puts back what a value has
abbrev pub correction_back : Memory → Correction → Correction
correction_back m c = record { value = c.value; bytes = own_bytes m c.value }

-- the inverse feed: the bytes that the corrected values have before the feed
abbrev pub inverse_feed : Memory → (feed : List ℕ) → List ℕ
inverse_feed m w = feed_bytes (map (correction_back m) (corrections w))
