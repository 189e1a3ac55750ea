-- Memory that holds what a strict reading gives.
use Rattle.std.specs.Prelude.{◌≡◌}
use Rattle.lists.specs.Prelude.{true}
use Rattle.tables.specs.Memory.{Memory}
use Rattle.fit.specs.Fit.{Fit}
use Rattle.edit_laws.specs.Calls.{text_rows}
use Rattle.edit_laws.specs.Run.{Reads}

-- the tables are lent and fit the used text, and their rows are those of the record that it reads as
pub record Fresh (m : Memory) : Type 0 where
  pub fits : Fit m ≡ true
  pub reads : Reads (text_rows m)
