-- A lenient reading: five cases and no other.
use Rattle.lists.specs.Prelude.{ℕ}
use Rattle.tables.specs.declared.Reason.TheVariants as reason
use Rattle.tables.specs.declared.LenientRefusal.TheVariants.{TextTooLong, NotUtf8, TooDeep, NoRoom}
use Rattle.std.specs.Prelude.{Result, Ok, Err}
use Rattle.tables.specs.Refusals.{refusal}
use Rattle.tables.specs.declared.Counts.{Counts}
use Rattle.tables.specs.declared.LenientRefusal.{LenientRefusal}
use Rattle.tables.specs.declared.Reason.{Reason}
use Rattle.tables.specs.declared.Refusal.{Refusal}

-- the same as a reading: the reason of each case, and the place
abbrev pub as_reading : Result Counts LenientRefusal → Result Counts (Refusal Reason)
as_reading (Ok c) = Ok c
as_reading (Err TextTooLong) = Err (refusal reason.TextTooLong 0)
as_reading (Err (NotUtf8 p)) = Err (refusal reason.NotUtf8 p)
as_reading (Err TooDeep) = Err (refusal reason.TooDeep 0)
as_reading (Err NoRoom) = Err (refusal reason.NoRoom 0)

-- its number (SCOPE 67)
abbrev pub lenient_number : Result Counts LenientRefusal → ℕ
lenient_number (Ok c) = 0
lenient_number (Err TextTooLong) = 1
lenient_number (Err (NotUtf8 p)) = 2
lenient_number (Err TooDeep) = 9
lenient_number (Err NoRoom) = 14
