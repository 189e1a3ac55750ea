-- Demand 1 of sgf_read_lenient: its numbers are 0, 1, 2, 9 and 14, each exactly when, and what a refusal leaves; passed on by Demand1. Assumes nothing.
use Rattle.lists.proofs.Prelude.{ℕ, ◌<◌, true, List, ◌≡◌, refl}
use Rattle.tables.specs.Lenient.{as_reading, lenient_number}
use Rattle.tables.specs.declared.LenientRefusal.TheVariants.{TextTooLong, NotUtf8, TooDeep, NoRoom}
use Rattle.parser.specs.Read.{read_lenient}
use Rattle.reader.specs.Lent.{Lent}
use Rattle.c_answers.specs.Structs.{reading_in_c, no_counts}
use Rattle.c_answers.specs.declared.SgfReading.{SgfReading}
use Rattle.sgf.specs.ReadInC.{ignored_of, ReadInC}
use Rattle.demands.specs.Cells.{counts_read}
use Rattle.demands.specs.Lists.{OneOf, lenient_numbers}
use Rattle.demands.specs.Settings.{Ignores}
use Rattle.demands.specs.When.{Exactly, ReadsInto, Unread}
use Rattle.demands.proofs.Readings as reading
use Rattle.std.specs.Prelude.{Result, Ok, Err}
use Rattle.tables.specs.declared.Counts.{Counts}
use Rattle.tables.specs.declared.LenientRefusal.{LenientRefusal}

module _ {i : ℕ} (t : List ℕ) (before after : Lent) (r : SgfReading) (s : ReadInC i (read_lenient t) before after r) where
  -- 0 exactly where the text reads as a record whose rows are lent; each number, with its place, exactly where the definition refuses so, or, 14, rows are too few
  pub lenient-exactly : Exactly r.number (ReadsInto true t before) (λ x. (p : ℕ) × Unread true t before x p × (r.place ≡ p))
  lenient-exactly = reading.reading-exactly true t before after r s

  -- any other number than 0 leaves every number of the four tables
  pub lenient-stays : 0 < r.number → after ≡ before
  lenient-stays = reading.reading-stays true t before after r s

  -- and gives no counts
  pub lenient-zeros : 0 < r.number → counts_read r ≡ no_counts
  lenient-zeros = reading.reading-zeros true t before after r s

  -- 0, 1, 2, 9, 14
  pub lenient-numbers : OneOf lenient_numbers r.number
  lenient-numbers = reading.lenient-listed true t before after r s refl

-- the settings that were ignored are said, bit by bit, on refusals too; that they change nothing else: Demand1.settings-change-nothing
pub lenient-ignored : (settings : ℕ) (t : List ℕ) (before after : Lent) (r : SgfReading)
    → ReadInC (ignored_of settings) (read_lenient t) before after r → Ignores settings r.ignored
lenient-ignored settings t = reading.settings-ignored settings (read_lenient t)

-- the list is the type: each case of a lenient answer is shown with its number
pub lenient-case : (i : ℕ) (l : Result Counts LenientRefusal) → (reading_in_c i (as_reading l)).number ≡ lenient_number l
lenient-case i (Ok c) = refl
lenient-case i (Err TextTooLong) = refl
lenient-case i (Err (NotUtf8 p)) = refl
lenient-case i (Err TooDeep) = refl
lenient-case i (Err NoRoom) = refl
