-- A session of calls of the exported edit, and what is kept for undoing it.
use Rattle.std.specs.Prelude.{◌∷◌, ◌++◌, ◌≡◌}
use Rattle.lists.specs.Prelude.{List, []}
use Rattle.tables.specs.Memory.{Memory}
use Rattle.edit_laws.specs.Run.{Order}
use Rattle.edit_session.specs.InMemory.{kept_of}
use Rattle.demands.specs.Calls.{ExportedCalls, none, call}

-- each call of a run gave number 0
abbrev pub AllZero : {m m' : Memory} {xs : List Order} → ExportedCalls m xs m' → Type 0
AllZero none = Unit {0}
AllZero (call r l e k) = (r.number ≡ 0) × AllZero k

-- the raw bytes of each value as they stood before its call, the last call first
abbrev pub kept_before : {m m' : Memory} {xs : List Order} → ExportedCalls m xs m' → List Order
kept_before none = []
kept_before (call {m = m} {x = x} r l e k) = kept_before k ++ (kept_of m x ∷ [])
