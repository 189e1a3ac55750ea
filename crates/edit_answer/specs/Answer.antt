-- What is answered to a value edit, over lent memory.
use Rattle.lists.specs.Prelude.{ℕ, List, length, pick}
use Rattle.tables.specs.Memory.{Memory}
use Rattle.tables.specs.declared.Reason.TheVariants.{NotFitting}
use Rattle.fit.specs.Fit.{Fit}
use Rattle.fit.specs.Record.{rows_in, text_in}
use Rattle.edit_answer.specs.Edit.{Outcome, refuses, gives, edit}
use Rattle.std.specs.Prelude.{Result, Ok, Err}
use Rattle.tables.specs.Refusals.{refusal}
use Rattle.tables.specs.declared.Reason.{Reason}
use Rattle.tables.specs.declared.Refusal.{Refusal}

-- 19 where the tables don't fit the first `used` bytes; else the edit of these and their rows (SCOPE 50, 63)
unfoldable pub outcome_of : Memory → (k : ℕ) → (new : List ℕ) → Outcome
outcome_of m k new = pick (Fit m) (edit (length m.text) (text_in m) (rows_in m) k new) (refuses NotFitting 0)

-- what is answered: the new used length, or the reason and the place
abbrev pub edited_for : Outcome → Result ℕ (Refusal Reason)
edited_for (refuses r p) = Err (refusal r p)
edited_for (gives t T) = Ok (length t)
