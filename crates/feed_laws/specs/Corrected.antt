-- The text and the rows that a feed makes of a record: each value has the feed's bytes where corrected, else its own.
use Rattle.lists.specs.Prelude.{ℕ, List, slice}
use Rattle.tables.specs.Memory.{Memory}
use Rattle.tables.specs.Rows.{Tables}
use Rattle.feed.specs.Feed.{listing}
use Rattle.feed.specs.Find.{found_in}
use Rattle.feed_laid.specs.OfMemory.{laid_text, laid_tables, own_bytes}
use Rattle.std.specs.Prelude.{Option, Some, None}

-- the bytes found in the feed, else others
abbrev pub bytes_for : List ℕ → Option (ℕ × ℕ) → List ℕ → List ℕ
bytes_for w (Some (a, e)) own = slice a e w
bytes_for w None own = own

-- the bytes of value k as corrected
abbrev pub new_bytes : Memory → (feed : List ℕ) → ℕ → List ℕ
new_bytes m w k = bytes_for w (found_in (listing w).entries k) (own_bytes m k)

-- the text as corrected
abbrev pub corrected_text : Memory → (feed : List ℕ) → List ℕ
corrected_text m w = laid_text m (new_bytes m w)

-- its rows
abbrev pub corrected_rows : Memory → (feed : List ℕ) → Tables
corrected_rows m w = laid_tables m (new_bytes m w)
