-- What an answer says of the settings that a profile stores, and what they leave as it is.
use Rattle.std.specs.Prelude.{◌%◌, ◌/◌, ◌<◌, ◌≡◌}
use Rattle.lists.specs.Prelude.{ℕ}
use Rattle.c_answers.specs.declared.SgfReading.{SgfReading}

-- what is said to be ignored has the bit of leniency, 1, and the bit of conversion, 2, exactly where the settings have them, and nothing else
pub record Ignores (settings ignored : ℕ) : Type 0 where
  pub leniency : ignored % 2 ≡ settings % 2
  pub conversion : ignored / 2 % 2 ≡ settings / 2 % 2
  pub nothing-else : ignored < 4

-- the same answer, but for what is said to be ignored
pub record SameAnswer (r s : SgfReading) : Type 0 where
  pub number : r.number ≡ s.number
  pub place : r.place ≡ s.place
  pub counts : r.counts ≡ s.counts
