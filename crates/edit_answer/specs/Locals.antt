-- What the steps of the decision promise each other.
use Rattle.std.specs.Prelude.{◌+◌, ◌≤◌, ◌<◌, ◌≡◌, Result}
use Rattle.lists.specs.Prelude.{ℕ, Bool, true, false, not, List, ltb, length, pick}
use Rattle.text_utf8.specs.Text.{Utf, whole, blank, utfs}
use Rattle.lexer.specs.Closed.{closed}
use Rattle.tables.specs.Numbers.{text_limit}
use Rattle.tables.specs.Rows.{Tables}
use Rattle.tables.specs.Columns.{name_from_at, name_to_at}
use Rattle.edit_answer.specs.Answer.{edited_for}
use Rattle.edit_answer.specs.Edit.{Outcome, refuses, gives, unless_bad}
use Rattle.tables.specs.declared.Reason.TheVariants.{TextTooLong, NoRoom, NoSuchNumber, GameTypeFixed, NotClosed}
use Rattle.tables.specs.declared.Reason.{Reason}
use Rattle.tables.specs.declared.Refusal.{Refusal}

-- the identifiers of n properties lie in a text of so many bytes
abbrev pub NamesLie : List ℕ → (n bytes : ℕ) → Type 0
NamesLie pr n bytes = (p : ℕ) → p < n → (name_from_at pr p ≤ name_to_at pr p) × (name_to_at pr p ≤ bytes)

-- the edit's outcome by its tests: is k below the count; is its identifier GM; the new bytes' UTF-8; are they closed; is the new text too long, or longer than the bytes lent
abbrev pub outcome : (known fixed : Bool) → Utf → (shut long over : Bool) → List ℕ → Tables → Outcome
outcome known fixed u shut long over t T =
    pick (not known) (refuses NoSuchNumber 0)
    (pick fixed (refuses GameTypeFixed 0)
    (unless_bad u (pick (not shut) (refuses NotClosed 0) (pick long (refuses TextTooLong 0) (pick over (refuses NoRoom 0) (gives t T))))))

-- the answer for a value that may be changed, where `kept` bytes of the text stay: 2, 18, 1, 14 in this order
abbrev pub AnswersBytes : List ℕ → (kept room : ℕ) → Result ℕ (Refusal Reason) → Type 0
AnswersBytes new kept room r =
    (t : List ℕ) (T : Tables) → length t ≡ kept + length new
    → r ≡ edited_for (outcome true false (utfs (whole blank) 0 new) (closed new) (ltb text_limit (length t)) (ltb room (length t)) t T)
