-- A session in lent memory: calls of which each only meets the edit's contract and is answered as changed; and what is kept for undoing it.
use Rattle.std.specs.Prelude.{◌∷◌, ◌++◌, ◌≡◌, Result, Ok, Err, ℕ}
use Rattle.lists.specs.Prelude.{List, [], length}
use Rattle.tables.specs.Memory.{Memory}
use Rattle.fit.specs.Record.{text_in}
use Rattle.edit_laws.specs.Calls.{Calls, none, call}
use Rattle.edit_laws.specs.Run.{Order}
use Rattle.feed_laid.specs.OfMemory.{own_bytes}
use Rattle.tables.specs.declared.Reason.{Reason}
use Rattle.tables.specs.declared.Refusal.{Refusal}

-- an answer says that the value was changed
abbrev pub SaysChanged : Result ℕ (Refusal Reason) → Type 0
SaysChanged (Ok n) = Unit {0}
SaysChanged (Err e) = ⊥

-- each call of a run
abbrev pub AllChanged : {m m' : Memory} {xs : List Order} → Calls m xs m' → Type 0
AllChanged none = Unit {0}
AllChanged (call r l e k) = SaysChanged r × AllChanged k

-- the raw bytes that a value has in memory, to be put back
abbrev pub kept_of : Memory → Order → Order
kept_of m x = record { value = x.value; bytes = own_bytes m x.value }

-- what was kept before each call of a run, the last one first
abbrev pub kept_in : {m m' : Memory} {xs : List Order} → Calls m xs m' → List Order
kept_in none = []
kept_in (call {m = m} {x = x} r l e k) = kept_in k ++ (kept_of m x ∷ [])

-- the same record in the same memory: the used length, each used byte, the counts, every number of the tables; the buffer is as long. Bytes behind the used
-- length may differ
pub record SameRecord (m m' : Memory) : Type 0 where
  pub used : m'.used ≡ m.used
  pub text : text_in m' ≡ text_in m
  pub room : length m'.text ≡ length m.text
  pub counts : m'.counts ≡ m.counts
  pub trees : m'.trees ≡ m.trees
  pub nodes : m'.nodes ≡ m.nodes
  pub properties : m'.properties ≡ m.properties
  pub values : m'.values ≡ m.values
