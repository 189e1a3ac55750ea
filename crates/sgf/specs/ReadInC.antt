-- A reading as the C header says it.
use Rattle.std.specs.Prelude.{◌%◌, ◌≡◌}
use Rattle.lists.specs.Prelude.{ℕ}
use Rattle.parser.specs.Read.{Answer}
use Rattle.reader.specs.Lent.{Lent, answers, leaves}
use Rattle.c_answers.specs.Structs.{reading_in_c}
use Rattle.c_answers.specs.declared.SgfReading.{SgfReading}

-- the bits of the two retired switches, where a profile still has them: 1 leniency, 2 conversion (SCOPE 95)
abbrev pub ignored_of : ℕ → ℕ
ignored_of s = s % 4

-- a reading, shown as numbers with the settings that were ignored, and the lent tables after it
pub record ReadInC (ignored : ℕ) (a : Answer) (before after : Lent) (r : SgfReading) : Type 0 where
  pub is : r ≡ reading_in_c ignored (answers a before)
  pub tables : after ≡ leaves a before
