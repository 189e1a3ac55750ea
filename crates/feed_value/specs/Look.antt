-- The lookup over a record and a feed: what is answered, and what is handed out.
use Rattle.lists.specs.Prelude.{ℕ, List, [], ltb, slice, pick}
use Rattle.tables.specs.Columns.{val_from_at, val_to_at}
use Rattle.tables.specs.Memory.{Memory}
use Rattle.feed.specs.Feed.{listing}
use Rattle.feed.specs.Find.{found_in}
use Rattle.feed_check.specs.Check.{feed_checked}
use Rattle.feed_check.specs.declared.FeedRefusal.TheVariants.{NoSuchNumber}
use Rattle.feed_value.specs.declared.Looked.{Looked}
use Rattle.feed_value.specs.declared.Looked.TheVariants.{Record, Feed, Refused}
use Rattle.std.specs.Prelude.{Option, Some, None, Result, Ok, Err, ⊤}
use Rattle.feed_check.specs.declared.FeedRefusal.{FeedRefusal}
use Rattle.tables.specs.declared.Refusal.{Refusal}

-- the feed's bytes where there are, else the record's
abbrev pub source_of : Option (ℕ × ℕ) → (a e : ℕ) → Looked
source_of (Some (p, q)) a e = Feed p q
source_of None a e = Record a e

-- a refused feed refuses the lookup; else what follows
abbrev pub unless_refused : Result ⊤ (Refusal FeedRefusal) → Looked → Looked
unless_refused (Err e) r = Refused e.reason e.place
unless_refused (Ok tt) r = r

-- refused as the feed is, but for 1 and 14; then 16 where k is not below the count; else where its bytes stand
unfoldable pub looked_up : Memory → (feed : List ℕ) → (k : ℕ) → Looked
looked_up m w k =
    unless_refused (feed_checked m w)
    (pick (ltb k m.counts.values) (source_of (found_in (listing w).entries k) (val_from_at m.values k) (val_to_at m.values k)) (Refused NoSuchNumber 0))

-- the part that is handed out, of the text or of the feed; a refusal hands out the empty part
abbrev pub handed_out : (t w : List ℕ) → Looked → List ℕ
handed_out t w (Record a e) = slice a e t
handed_out t w (Feed a e) = slice a e w
handed_out t w (Refused f p) = []

-- the bytes of value k as corrected
abbrev pub corrected_value : Memory → (feed : List ℕ) → ℕ → List ℕ
corrected_value m w k = handed_out m.text w (looked_up m w k)
