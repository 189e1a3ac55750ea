-- A session: edits that are all accepted. What undoes it: the old raw bytes of each value, kept before its edit, put back in reverse order.
use Rattle.std.specs.Prelude.{◌∷◌, ◌++◌}
use Rattle.lists.specs.Prelude.{ℕ, List, [], slice}
use Rattle.edit_answer.specs.Edit.{Outcome, refuses, gives, edit, span_at}
use Rattle.edit_laws.specs.Run.{TextRows, Order, after}

-- an edit is accepted; refused ones are no part of a session (SCOPE 222)
abbrev pub Granted : Outcome → Type 0
Granted (refuses r p) = ⊥
Granted (gives t T) = Unit {0}

-- what an edit of a text and its rows comes to, where `room` bytes are lent
abbrev pub asked : (room : ℕ) → TextRows → Order → Outcome
asked room s x = edit room s.text s.rows x.value x.bytes

-- each edit of the session is accepted (SCOPE 220)
abbrev pub AllGranted : (room : ℕ) → TextRows → List Order → Type 0
AllGranted room s [] = Unit {0}
AllGranted room s (x ∷ xs) = Granted (asked room s x) × AllGranted room (after s (asked room s x)) xs

-- the edit that puts the old raw bytes back
abbrev pub putting_back : TextRows → Order → Order
putting_back s x = record { value = x.value; bytes = slice (span_at s.rows.vals x.value).from (span_at s.rows.vals x.value).to s.text }

-- all of them, the last one first (SCOPE 220)
abbrev pub undoing : (room : ℕ) → TextRows → List Order → List Order
undoing room s [] = []
undoing room s (x ∷ xs) = undoing room (after s (asked room s x)) xs ++ (putting_back s x ∷ [])
