-- A feed applied: all of its corrections or none; lent memory after it is as after one edit.
use Rattle.lists.specs.Prelude.{ℕ, List, ltb, length, pick}
use Rattle.tables.specs.Memory.{Memory}
use Rattle.tables.specs.Numbers.{text_limit}
use Rattle.tables.specs.Rows.{Tables}
use Rattle.edit_answer.specs.Edit.{gives}
use Rattle.edit.specs.Lent.{memory_after}
use Rattle.feed_check.specs.Check.{feed_checked}
use Rattle.feed_check.specs.declared.FeedRefusal.{FeedRefusal}
use Rattle.feed_check.specs.declared.FeedRefusal.TheVariants.{TextTooLong, NoRoom}
use Rattle.feed_laws.specs.Corrected.{corrected_text, corrected_rows}
use Rattle.std.specs.Prelude.{Result, Ok, Err, ⊤}
use Rattle.tables.specs.declared.Refusal.{Refusal}

-- why a feed is refused and the place; or the new used text and rows
pub data Applying : Type 0 where
  refusing : FeedRefusal → (place : ℕ) → Applying
  applying : List ℕ → Tables → Applying

-- 1, then 14, on the final length
abbrev pub on_length : (room : ℕ) → List ℕ → Tables → Applying
on_length room u T = pick (ltb text_limit (length u)) (refusing TextTooLong 0) (pick (ltb room (length u)) (refusing NoRoom 0) (applying u T))

-- a feed that is refused by the check; else what follows
abbrev pub once_checked : Result ⊤ (Refusal FeedRefusal) → Applying → Applying
once_checked (Err e) o = refusing e.reason e.place
once_checked (Ok tt) o = o

-- 19, 24, then for each correction 16, 17, 2, 18; then 1 and 14; else the text as corrected and its rows
unfoldable pub feed_applied : Memory → (feed : List ℕ) → Applying
feed_applied m w = once_checked (feed_checked m w) (on_length (length m.text) (corrected_text m w) (corrected_rows m w))

-- what lent memory holds after it: a refusal leaves all; else what an edit that gives this text and these rows leaves
abbrev pub memory_applied : Applying → Memory → Memory
memory_applied (refusing f p) m = m
memory_applied (applying t T) m = memory_after (gives t T) m
