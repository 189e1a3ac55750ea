-- Answers about feeds shown as numbers, as the C header says them. What is reserved is 0.
use Rattle.std.specs.Prelude.{◌≡◌, Option, Some, None, Result, Ok, Err, ⊤}
use Rattle.lists.specs.Prelude.{ℕ, Bool, List}
use Rattle.tables.specs.Memory.{Memory}
use Rattle.tables.specs.declared.Counts.{Counts}
use Rattle.feed.specs.Made.{made_for, out_after}
use Rattle.feed.specs.declared.make.MakeFault.TheVariants.{TooLarge, NoRoom}
use Rattle.feed_check.specs.Check.{feed_number}
use Rattle.feed_value.specs.declared.Looked.{Looked}
use Rattle.feed_value.specs.declared.Looked.TheVariants.{Record, Feed, Refused as NotLooked}
use Rattle.feed_laws.specs.Applied.{feed_applied, memory_applied}
use Rattle.feed_apply.specs.Lent.{applied_for}
use Rattle.c_answers.specs.Structs.{no_counts}
use Rattle.c_answers.specs.declared.SgfEdit.{SgfEdit}
use Rattle.c_answers.specs.declared.SgfWriting.{SgfWriting}
use Rattle.c_feed.specs.declared.SgfPart.{SgfPart}
use Rattle.c_feed.specs.declared.SgfCheck.{SgfCheck}
use Rattle.feed_check.specs.declared.FeedRefusal.{FeedRefusal}
use Rattle.feed.specs.declared.make.MakeFault.{MakeFault}
use Rattle.tables.specs.declared.Refusal.{Refusal}

-- a part: number, source, place and span
abbrev pub part_of : (number source place from to : ℕ) → SgfPart
part_of n s p a e = record { number = n; source = s; place = p; from = a; to = e }

-- a value looked up: source 0 is the record, 1 the feed; a refusal's number and place
abbrev pub part_in_c : Looked → SgfPart
part_in_c (Record a e) = part_of 0 0 0 a e
part_in_c (Feed a e) = part_of 0 1 0 a e
part_in_c (NotLooked f p) = part_of (feed_number f) 0 p 0 0

-- a value looked for in a feed alone: the record's where the feed has none
abbrev pub found_in_c : Option (ℕ × ℕ) → SgfPart
found_in_c (Some (a, e)) = part_of 0 1 0 a e
found_in_c None = part_of 0 0 0 0 0

-- a feed checked: 0, or a refusal's number and place
abbrev pub check_in_c : Result ⊤ (Refusal FeedRefusal) → SgfCheck
check_in_c (Ok tt) = record { number = 0; reserved = 0; place = 0 }
check_in_c (Err e) = record { number = feed_number e.reason; reserved = 0; place = e.place }

-- bytes put: how many; 24 where a number needs five groups, 14 where there is no room
abbrev pub made_in_c : Result ℕ MakeFault → SgfWriting
made_in_c (Ok n) = record { number = 0; reserved = 0; length = n }
made_in_c (Err TooLarge) = record { number = 24; reserved = 0; length = 0 }
made_in_c (Err NoRoom) = record { number = 14; reserved = 0; length = 0 }

-- that answer, and all of the lent bytes
pub record PutInC (held : Bool) (bytes out out' : List ℕ) (r : SgfWriting) : Type 0 where
  pub is : r ≡ made_in_c (made_for held bytes out)
  pub memory : out' ≡ out_after (made_for held bytes out) bytes out

-- a feed applied: the new used length and the counts; a refusal's number and place, and all else 0
abbrev pub applied_in_c : Counts → Result ℕ (Refusal FeedRefusal) → SgfEdit
applied_in_c c (Ok n) = record { number = 0; reserved = 0; place = 0; used = n; counts = c }
applied_in_c c (Err e) = record { number = feed_number e.reason; reserved = 0; place = e.place; used = 0; counts = no_counts }

-- that answer, and all of the lent memory
pub record CorrectInC (m m' : Memory) (feed : List ℕ) (r : SgfEdit) : Type 0 where
  pub is : r ≡ applied_in_c m.counts (applied_for (feed_applied m feed))
  pub memory : m' ≡ memory_applied (feed_applied m feed) m
