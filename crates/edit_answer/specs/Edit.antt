-- The value edit over the used text and its rows.
use Rattle.std.specs.Prelude.{◌+◌, ◌∷◌}
use Rattle.lists.specs.Prelude.{ℕ, not, List, [], ltb, length, get_or, slice, pick}
use Rattle.lists.specs.Same.{same}
use Rattle.text_utf8.specs.Text.{Utf, whole, part, bad, blank, utfs}
use Rattle.lexer.specs.Closed.{closed}
use Rattle.lexer.specs.Move.{starts_at, ends_at}
use Rattle.tables.specs.Numbers.{text_limit}
use Rattle.tables.specs.Rows.{PropRow, ValRow, Tables}
use Rattle.tables.specs.Move.{move_tables}
use Rattle.parser.specs.Game.{GM}
use Rattle.edit_splice.specs.Splice.{pasted}
use Rattle.tables.specs.declared.Reason.{Reason}
use Rattle.tables.specs.declared.Reason.TheVariants.{TextTooLong, NotUtf8, NoRoom, NoSuchNumber, GameTypeFixed, NotClosed}

-- the row of the property that has value k
abbrev pub owner_row : List PropRow → ℕ → PropRow
owner_row [] k = record { from = 0; to = 0; first = 0; count = 0 }
owner_row (r ∷ rs) k = let z = owner_row rs k in pick (ltb k (r.first + r.count)) r z

-- its raw identifier (SCOPE 48, 141)
abbrev pub owner_name : List ℕ → List PropRow → ℕ → List ℕ
owner_name t rs k = slice (owner_row rs k).from (owner_row rs k).to t

-- the span of value k
abbrev pub span_at : List ValRow → ℕ → ValRow
span_at vs k = get_or vs k (record { from = 0; to = 0 })

-- row places after the value move by the change in length (SCOPE 129)
abbrev pub shifted : Tables → ValRow → ℕ → Tables
shifted T v n = move_tables (starts_at v.from v.to n) (ends_at v.from v.to n) T

-- why an edit is refused and the place; or the new used text and rows
pub data Outcome : Type 0 where
  refuses : Reason → (place : ℕ) → Outcome
  gives : List ℕ → Tables → Outcome

-- a text that is not UTF-8 is refused, with the place of its first bad sequence; else what follows
abbrev pub unless_bad : Utf → Outcome → Outcome
unless_bad (bad p) o = refuses NotUtf8 p
unless_bad (part k s n r x) o = refuses NotUtf8 s
unless_bad (whole k) o = o

-- the edit of value k, where `room` bytes are lent: the first refusal that applies, else the new text and rows (SCOPE 5, 32, 45, 47, 52, 63, 133)
abbrev pub edit : (room : ℕ) → List ℕ → Tables → (k : ℕ) → (new : List ℕ) → Outcome
edit room t T k new =
    let u = pasted t (span_at T.vals k).from (span_at T.vals k).to new in
    pick (not (ltb k (length T.vals))) (refuses NoSuchNumber 0)
    (pick (same (owner_name t T.props k) GM) (refuses GameTypeFixed 0)
    (unless_bad (utfs (whole blank) 0 new)
    (pick (not (closed new)) (refuses NotClosed 0)
    (pick (ltb text_limit (length u)) (refuses TextTooLong 0)
    (pick (ltb room (length u)) (refuses NoRoom 0)
    (gives u (shifted T (span_at T.vals k) (length new))))))))
