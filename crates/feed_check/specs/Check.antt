-- What a feed is answered, but for the length of the text: the first refusal in the order 19, 24, then for each correction 16, 17, 2, 18.
use Rattle.std.specs.Prelude.{◌+◌, ◌∷◌, Result, Ok, Err, ⊤}
use Rattle.lists.specs.Prelude.{ℕ, Bool, true, false, not, List, [], ltb, slice, pick}
use Rattle.lists.specs.Same.{same}
use Rattle.text_utf8.specs.Trim.{trimmed}
use Rattle.text_utf8.specs.declared.Trimmed.{Trimmed}
use Rattle.text_utf8.specs.declared.Trimmed.TheVariants.{NotUtf8 as BadAt, Blank, Kept}
use Rattle.lexer.specs.Closed.{closed}
use Rattle.tables.specs.Memory.{Memory}
use Rattle.tables.specs.Rows.{PropRow}
use Rattle.parser.specs.Game.{GM}
use Rattle.fit.specs.Fit.{Fit}
use Rattle.fit.specs.Record.{rows_in, text_in}
use Rattle.edit_answer.specs.Edit.{owner_name}
use Rattle.feed.specs.Feed.{Entry, listing}
use Rattle.feed_check.specs.declared.FeedRefusal.{FeedRefusal}
use Rattle.feed_check.specs.declared.FeedRefusal.TheVariants.{NotFitting, Malformed, NoSuchNumber, GameTypeFixed, NotUtf8, NotClosed, TextTooLong, NoRoom}
use Rattle.tables.specs.Refusals.{refusal}
use Rattle.tables.specs.declared.Refusal.{Refusal}

-- the number of a refusal
abbrev pub feed_number : FeedRefusal → ℕ
feed_number NotFitting = 19
feed_number Malformed = 24
feed_number NoSuchNumber = 16
feed_number GameTypeFixed = 17
feed_number NotUtf8 = 2
feed_number NotClosed = 18
feed_number TextTooLong = 1
feed_number NoRoom = 14

-- whether they are closed
abbrev pub shut_judged : Bool → Result ⊤ (Refusal FeedRefusal)
shut_judged true = Ok tt
shut_judged false = Err (refusal NotClosed 0)

-- new bytes that stand at a place of the feed: the place of a bad sequence counts in the feed
abbrev pub bytes_judged : (at : ℕ) → Trimmed → (shut : Bool) → Result ⊤ (Refusal FeedRefusal)
bytes_judged at (BadAt p) shut = Err (refusal NotUtf8 (at + p))
bytes_judged at Blank shut = shut_judged shut
bytes_judged at (Kept f l) shut = shut_judged shut

-- the bytes of a correction
abbrev pub bytes_at : List ℕ → Entry → List ℕ
bytes_at w x = slice x.from x.to w

-- one correction, of a text with these property rows and so many values
abbrev pub correction_judged : List ℕ → List PropRow → (total : ℕ) → List ℕ → Entry → Result ⊤ (Refusal FeedRefusal)
correction_judged t rs total w x =
    pick (not (ltb x.value total)) (Err (refusal NoSuchNumber 0))
    (pick (same (owner_name t rs x.value) GM) (Err (refusal GameTypeFixed 0)) (bytes_judged x.from (trimmed (bytes_at w x)) (closed (bytes_at w x))))

-- the first refusal
abbrev pub first_refusal : Result ⊤ (Refusal FeedRefusal) → Result ⊤ (Refusal FeedRefusal) → Result ⊤ (Refusal FeedRefusal)
first_refusal (Ok tt) r = r
first_refusal (Err e) r = Err (refusal e.reason e.place)

-- corrections one after another
unfoldable pub corrections_judged : List ℕ → List PropRow → (total : ℕ) → List ℕ → List Entry → Result ⊤ (Refusal FeedRefusal)
corrections_judged t rs total w [] = Ok tt
corrections_judged t rs total w (x ∷ xs) = first_refusal (correction_judged t rs total w x) (corrections_judged t rs total w xs)

-- 19 where the tables don't fit the text; 24 where the feed is malformed; then its corrections
unfoldable pub feed_checked : Memory → List ℕ → Result ⊤ (Refusal FeedRefusal)
feed_checked m w =
    pick (Fit m)
    (pick (listing w).whole (corrections_judged (text_in m) (rows_in m).props m.counts.values w (listing w).entries) (Err (refusal Malformed 0)))
    (Err (refusal NotFitting 0))
