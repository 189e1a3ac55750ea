-- When each exported function accepts, and when it gives each number: in the scope's order, each where none before it applies.
use Rattle.std.specs.Prelude.{◌≤◌, ◌<◌, ◌⊎◌, ◌↔◌, ◌≡◌}
use Rattle.lists.specs.Prelude.{ℕ, true, false, List, length, slice, Bool}
use Rattle.values.specs.Read.{read_value}
use Rattle.value_display.specs.Display.{display_text}
use Rattle.value_display.specs.declared.Kind.{Kind}
use Rattle.tables.specs.Columns.{val_from_at, val_to_at}
use Rattle.tables.specs.Memory.{Memory}
use Rattle.tables.specs.Numbers.{number_of}
use Rattle.tables.specs.Record.{Tree, all_nodes, all_props}
use Rattle.tables.specs.Rows.{tables}
use Rattle.tables.specs.declared.Reason.{Reason}
use Rattle.tables.specs.declared.Reason.TheVariants.{NoRoom, EmptyIdentifier, NoSuchNumber, NotFitting}
use Rattle.fit.specs.Fit.{Fit}
use Rattle.fit.specs.Record.{record_in}
use Rattle.parser.specs.Read.{refused, accepted, read}
use Rattle.reader.specs.Lent.{Lent, roomy}
use Rattle.serialize.specs.Form.{writing}
use Rattle.serialize.specs.Branch.{nameless}
use Rattle.reader_exactly.specs.Slicing.{slices_from}
use Rattle.reader_exactly.specs.When.{tokens_of, Splits, First, StartsEmpty, Unexpected, WrongGame, Nodeless}

-- number 0 exactly on acceptance, the number of each reason exactly where that reason holds, and no other number
pub record Exactly (number : ℕ) (Accepts : Type 0) (Because : Reason → Type 0) : Type 0 where
  pub zero : (number ≡ 0) ↔ Accepts
  pub each : (x : Reason) → (number ≡ number_of x) ↔ Because x
  pub no_other : (number ≡ 0) ⊎ ((x : Reason) × (number ≡ number_of x))

-- the definition reads the text as a record
abbrev pub Recorded : Bool → List ℕ → Type 0
Recorded len t = (ts : List Tree) × (read len t ≡ accepted ts)

-- none of 1 to 9 applies, and no slice is the first that is refused: with 7, 10, 11 or 12
pub record Sound (t : List ℕ) : Type 0 where
  pub splits : Splits t
  pub noded : First Nodeless (slices_from 0 (tokens_of t).toks) → ⊥
  pub started : First StartsEmpty (slices_from 0 (tokens_of t).toks) → ⊥
  pub expected : First Unexpected (slices_from 0 (tokens_of t).toks) → ⊥
  pub typed : First (λ _ s. WrongGame s) (slices_from 0 (tokens_of t).toks) → ⊥

-- a reading is accepted: the text reads as a record, whose rows are lent
pub record ReadsInto (len : Bool) (t : List ℕ) (before : Lent) : Type 0 where
  pub trees : List Tree
  pub is : read len t ≡ accepted trees
  pub room : roomy (tables trees) before ≡ true

-- or refused, with the place: for the definition's reason; or, 14 last, too few rows are lent
pub data Unread (len : Bool) (t : List ℕ) (before : Lent) : Reason → ℕ → Type 0 where
  unread : {x : Reason} {p : ℕ} → read len t ≡ refused x p → Unread len t before x p
  few : (ts : List Tree) → read len t ≡ accepted ts → roomy (tables ts) before ≡ false → Unread len t before NoRoom 0

-- a writing into `room` bytes is accepted: the tables fit, no identifier reads as empty, the writing has room
pub record Writes (m : Memory) (room : ℕ) : Type 0 where
  pub fits : Fit m ≡ true
  pub named : nameless (all_props (all_nodes (record_in m))) ≡ false
  pub long : length (writing (record_in m)) ≤ room

-- or refused: 19, 15, 14
pub data Unwritten (m : Memory) (room : ℕ) : Reason → Type 0 where
  unfit : Fit m ≡ false → Unwritten m room NotFitting
  unnamed : Fit m ≡ true → nameless (all_props (all_nodes (record_in m))) ≡ true → Unwritten m room EmptyIdentifier
  narrow : Fit m ≡ true → nameless (all_props (all_nodes (record_in m))) ≡ false → room < length (writing (record_in m)) → Unwritten m room NoRoom

-- number k, of so many, is answered: the tables fit, and it is below the count
pub record Answered (m : Memory) (count k : ℕ) : Type 0 where
  pub fits : Fit m ≡ true
  pub below : k < count

-- or not: 19, 16
pub data Unanswered (m : Memory) (count k : ℕ) : Reason → Type 0 where
  misfit : Fit m ≡ false → Unanswered m count k NotFitting
  beyond : Fit m ≡ true → count ≤ k → Unanswered m count k NoSuchNumber

-- what value k shows
abbrev pub display_of : Memory → ℕ → Kind → List ℕ
display_of m k kind = display_text kind (read_value (slice (val_from_at m.values k) (val_to_at m.values k) m.text))

-- value k is displayed in `room` bytes
pub record Displays (m : Memory) (k : ℕ) (kind : Kind) (room : ℕ) : Type 0 where
  pub asked : Answered m m.counts.values k
  pub long : length (display_of m k kind) ≤ room

-- or not: 19, 16, 14
pub data Undisplayed (m : Memory) (k : ℕ) (kind : Kind) (room : ℕ) : Reason → Type 0 where
  unanswered : {x : Reason} → Unanswered m m.counts.values k x → Undisplayed m k kind room x
  full : Answered m m.counts.values k → room < length (display_of m k kind) → Undisplayed m k kind room NoRoom
