-- The value edit in lent memory: what the text's buffer and the tables hold after it.
use Rattle.std.specs.Prelude.{◌≡◌, Result}
use Rattle.lists.specs.Prelude.{ℕ, List}
use Rattle.tables.specs.Memory.{Memory, memory}
use Rattle.tables.specs.Flat.{flat_props, flat_vals, over}
use Rattle.edit_splice.specs.Splice.{cleared}
use Rattle.edit_answer.specs.Answer.{outcome_of, edited_for}
use Rattle.edit_answer.specs.Edit.{Outcome, refuses, gives}
use Rattle.tables.specs.declared.Reason.{Reason}
use Rattle.tables.specs.declared.Refusal.{Refusal}

-- what lent memory holds after it: a refusal leaves every byte and every number. The used length that the caller goes on with is in the answer (SCOPE 57, 58, 128)
abbrev pub memory_after : Outcome → Memory → Memory
memory_after (refuses r p) m = m
memory_after (gives t T) m =
    memory (over (cleared t m.used) m.text) m.used m.counts m.trees m.nodes
    (over (flat_props T.props) m.properties) (over (flat_vals T.vals) m.values)

-- the answer, and all of that memory
pub record EditIs (m m' : Memory) (k : ℕ) (new : List ℕ) (r : Result ℕ (Refusal Reason)) : Type 0 where
  pub answer : r ≡ edited_for (outcome_of m k new)
  pub memory : m' ≡ memory_after (outcome_of m k new) m
