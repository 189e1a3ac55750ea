-- Answers about a record in memory, shown as numbers, as the C header says them.
use Rattle.std.specs.Prelude.{◌≡◌}
use Rattle.lists.specs.Prelude.{ℕ, Bool, true, false, List, eqb, pick}
use Rattle.tables.specs.Memory.{Memory}
use Rattle.ask_value.specs.Access.{accessed}
use Rattle.value_display.specs.declared.Kind.{Kind}
use Rattle.value_display.specs.declared.Kind.TheVariants.{Text, SimpleText}
use Rattle.ask.specs.Ask.{display_raw, display_raw_in, display, display_in, refusal_number}
use Rattle.ask.specs.declared.GoAnswer.{GoAnswer}
use Rattle.c_answers.specs.Structs.{display_in_c, go_in_c}
use Rattle.c_answers.specs.declared.SgfDisplay.{SgfDisplay}
use Rattle.c_answers.specs.declared.SgfGoValue.{SgfGoValue}

-- 0 where tables fit, else 19
abbrev pub fits_in_c : Bool → ℕ
fits_in_c true = 0
fits_in_c false = 19

-- 0 is Text, any other number SimpleText
abbrev pub display_kind : ℕ → Kind
display_kind k = pick (eqb k 0) Text SimpleText

-- a display and the lent bytes after it
pub record DisplayInC (m : Memory) (k : ℕ) (kind : Kind) (out out' : List ℕ) (r : SgfDisplay) : Type 0 where
  pub is : r ≡ display_in_c (display m.text (accessed m k) kind out)
  pub bytes : out' ≡ display_in m.text (accessed m k) kind out

-- the display of a raw value without a record, and the lent bytes after it
pub record RawInC (kind : Kind) (raw out out' : List ℕ) (r : SgfDisplay) : Type 0 where
  pub is : r ≡ display_in_c (display_raw kind raw out)
  pub bytes : out' ≡ display_raw_in kind raw out

-- the answer to a Go value
abbrev pub go_answer_in_c : GoAnswer → SgfGoValue
go_answer_in_c a = go_in_c (refusal_number a.refusal) a.go
