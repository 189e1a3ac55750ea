-- The tally of a record, shown as numbers, as the C header says them. What is reserved is 0.
use Rattle.tables.specs.Memory.{Memory}
use Rattle.tables.specs.Numbers.{number_of}
use Rattle.tables.specs.declared.Reason.TheVariants.{NotFitting as Unfit}
use Rattle.season_tally.specs.Tally.{tally_answer}
use Rattle.c_tally.specs.declared.SgfTally.{SgfTally}
use Rattle.std.specs.Prelude.{Option, Some, None}
use Rattle.season_totals.specs.declared.Tally.{Tally}

-- the five columns; a refusal's number, and all else 0
abbrev pub tally_in_c : Option Tally → SgfTally
tally_in_c (Some t) =
    record { number = 0; reserved = 0; trees = t.trees; nodes = t.nodes; black = t.black; white = t.white; passes = t.passes }
tally_in_c None = record { number = number_of Unfit; reserved = 0; trees = 0; nodes = 0; black = 0; white = 0; passes = 0 }

-- 19 where the tables don't fit the text, else the tally of the record that they denote (SCOPE 246)
abbrev pub tally_or_number : Memory → SgfTally
tally_or_number m = tally_in_c (tally_answer m)
