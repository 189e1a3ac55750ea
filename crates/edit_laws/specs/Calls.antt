-- Runs of calls of the edit, in lent memory.
use Rattle.std.specs.Prelude.{◌∷◌, Result, Ok, Err}
use Rattle.lists.specs.Prelude.{ℕ, List, []}
use Rattle.tables.specs.Memory.{Memory, memory}
use Rattle.fit.specs.Record.{rows_in, text_in}
use Rattle.edit_answer.specs.Edit.{Outcome}
use Rattle.edit_answer.specs.Answer.{outcome_of}
use Rattle.edit.specs.Lent.{EditIs}
use Rattle.edit_laws.specs.Run.{TextRows, Order}
use Rattle.tables.specs.declared.Reason.{Reason}
use Rattle.tables.specs.declared.Refusal.{Refusal}

-- the used text and its rows
abbrev pub text_rows : Memory → TextRows
text_rows m = record { text = text_in m; rows = rows_in m }

-- what the definition says of an edit that is asked for
abbrev pub outcome_for : Memory → Order → Outcome
outcome_for m x = outcome_of m x.value x.bytes

-- the used length that the caller goes on with: after a refusal its own
abbrev pub used_after : Result ℕ (Refusal Reason) → ℕ → ℕ
used_after (Ok n) used = n
used_after (Err e) used = used

-- what the caller has after an answer (SCOPE 56)
abbrev pub memory_next : Memory → Result ℕ (Refusal Reason) → Memory
memory_next m r = memory m.text (used_after r m.used) m.counts m.trees m.nodes m.properties m.values

-- calls one after another, of which each only meets the edit's contract
pub data Calls : Memory → List Order → Memory → Type 0 where
  none : {m : Memory} → Calls m [] m
  call : {m m'' : Memory} {x : Order} {xs : List Order} (r : Result ℕ (Refusal Reason)) (m' : Memory)
      → EditIs m m' x.value x.bytes r → Calls (memory_next m' r) xs m'' → Calls m (x ∷ xs) m''
