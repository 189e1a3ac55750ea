-- What a record in memory answers by number: how a value is displayed, and the Go value of a property.
use Rattle.std.specs.Prelude.{◌-◌, ◌≡◌, ◌∷◌, Option, Some, None, Result, Ok, Err}
use Rattle.lists.specs.Prelude.{ℕ, List, [], ltb, length, get_or, slice, pick}
use Rattle.lexer.specs.Token.{Prop}
use Rattle.values.specs.Read.{read_value, read_identifier}
use Rattle.value_display.specs.Display.{display_text, displayed, displayed_in}
use Rattle.value_display.specs.declared.Kind.{Kind}
use Rattle.go.specs.Value.{unmarked, go_value}
use Rattle.go.specs.declared.value.GoValue.{GoValue}
use Rattle.go_points.specs.declared.Value.TheVariants.{Other}
use Rattle.tables.specs.Numbers.{number_of}
use Rattle.tables.specs.Record.{Tree, all_props}
use Rattle.tables.specs.Memory.{Memory}
use Rattle.tables.specs.declared.Reason.{Reason}
use Rattle.tables.specs.declared.Reason.TheVariants as reason
use Rattle.ask_value.specs.Access.{accessed}
use Rattle.fit.specs.Fit.{Fit}
use Rattle.fit.specs.Record.{raws_of, record_in}
use Rattle.fit_rule.specs.Rule.{rule_of}
use Rattle.ask.specs.declared.GoAnswer.{GoAnswer}

-- the length of what is displayed, or 14 (SCOPE 45)
abbrev pub display_for : Option ℕ → Result ℕ Reason
display_for (Some n) = Ok n
display_for None = Err reason.NoRoom

-- a raw value displayed in the bytes lent
abbrev pub display_raw : Kind → (raw out : List ℕ) → Result ℕ Reason
display_raw kind raw out = display_for (displayed (display_text kind (read_value raw)) out)

-- these bytes then
abbrev pub display_raw_in : Kind → (raw out : List ℕ) → List ℕ
display_raw_in kind raw out = displayed_in (display_text kind (read_value raw)) out

-- the display of a value that is accessed: 19, 16, then 14 (SCOPE 47, 65)
abbrev pub display : List ℕ → Result (ℕ × ℕ) Reason → Kind → (out : List ℕ) → Result ℕ Reason
display t (Ok (a, e)) kind out = display_raw kind (slice a e t) out
display t (Err r) kind out = Err r

-- the lent bytes then; a refusal changes none
abbrev pub display_in : List ℕ → Result (ℕ × ℕ) Reason → Kind → (out : List ℕ) → List ℕ
display_in t (Ok (a, e)) kind out = display_raw_in kind (slice a e t) out
display_in t (Err r) kind out = out

-- the display of value k: the answer and the lent bytes
pub record DisplayIs (m : Memory) (k : ℕ) (kind : Kind) (out out' : List ℕ) (r : Result ℕ Reason) : Type 0 where
  pub is : r ≡ display m.text (accessed m k) kind out
  pub bytes : out' ≡ display_in m.text (accessed m k) kind out

-- no property
abbrev pub no_prop : Prop
no_prop = record { from = 0; to = 0; name = []; vals = [] }

-- the Go value of a property of a tree with rule k (SCOPE 96)
abbrev pub go_of : (k : ℕ) → Prop → GoValue
go_of k p = go_value k (read_identifier p.name) (raws_of p)

-- property p of these trees, numbered from 0 (SCOPE 97)
abbrev pub go_at : List Tree → ℕ → GoValue
go_at [] p = unmarked Other
go_at (t ∷ ts) p = let n = length (all_props t.nodes) in pick (ltb p n) (go_of (rule_of t) (get_or (all_props t.nodes) p no_prop)) (go_at ts (p - n))

-- a Go value that is given
abbrev pub given : GoValue → GoAnswer
given g = record { refusal = None; go = g }

-- "other" and no points (SCOPE 66)
abbrev pub refuses : Reason → GoAnswer
refuses r = record { refusal = Some r; go = unmarked Other }

-- 19 where the tables don't fit the text; then 16 where p is not below the count; else the Go value of property p (SCOPE 47, 50, 66, 97)
unfoldable pub go_answer : Memory → ℕ → GoAnswer
go_answer m p =
    pick (Fit m)
    (pick (ltb p m.counts.properties) (given (go_at (record_in m) p)) (refuses reason.NoSuchNumber))
    (refuses reason.NotFitting)

-- its number
abbrev pub refusal_number : Option Reason → ℕ
refusal_number None = 0
refusal_number (Some r) = number_of r
