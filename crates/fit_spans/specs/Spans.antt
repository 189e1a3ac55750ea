-- Fitting, the spans: where identifiers and values stand in the text, and what stands in them.
use Rattle.std.specs.Prelude.{◌-◌, ◌&&◌, ◌∷◌, ◌++◌}
use Rattle.lists.specs.Prelude.{ℕ, zero, suc, Bool, true, not, List, [], leb, ltb, eqb, length, get_or, slice}
use Rattle.lexer.specs.Closed.{closed}
use Rattle.tables.specs.declared.Counts.{Counts}
use Rattle.tables.specs.Columns.{name_from_at, name_to_at, first_val_at, val_count_at, val_from_at, val_to_at}
use Rattle.tables.specs.Each.{each, tabulate}

-- a part of the text, end excluded
pub record Span : Type 0 where
  pub from : ℕ
  pub to : ℕ

-- from a to e
abbrev pub span : (a e : ℕ) → Span
span a e = record { from = a; to = e }

-- value k
abbrev pub val_span : List ℕ → ℕ → Span
val_span vl k = span (val_from_at vl k) (val_to_at vl k)

-- property k: its identifier, then its values
abbrev pub prop_spans : (pr vl : List ℕ) → ℕ → List Span
prop_spans pr vl k = span (name_from_at pr k) (name_to_at pr k) ∷ tabulate (val_span vl) (first_val_at pr k) (val_count_at pr k)

-- the m properties from p on (SCOPE 24)
unfoldable pub spans : (pr vl : List ℕ) → (p m : ℕ) → List Span
spans pr vl p zero = []
spans pr vl p (suc m) = prop_spans pr vl p ++ spans pr vl (suc p) m

-- each span starts at o or later and at most at its end, and ends in a text of `used` bytes; the next starts after its end (SCOPE 24)
unfoldable pub ascending : (used o : ℕ) → List Span → Bool
ascending used o [] = true
ascending used o (s ∷ ss) = leb o s.from && (leb s.from s.to && (leb s.to used && ascending used (suc s.to) ss))

-- ASCII without `[` (SCOPE 25)
unfoldable pub plain_name : List ℕ → Bool
plain_name [] = true
plain_name (b ∷ bs) = ltb b 0x80 && (not (eqb b 0x5b) && plain_name bs)

-- property k's identifier is plain
abbrev pub name_right : (t pr : List ℕ) → ℕ → Bool
name_right t pr k = plain_name (slice (name_from_at pr k) (name_to_at pr k) t)

-- what stands from a to e stands after `[` and before `]`, and is closed (SCOPE 26)
abbrev pub in_brackets_closed : List ℕ → (a e : ℕ) → Bool
in_brackets_closed t a e = ltb 0 a && (eqb (get_or t (a - 1) 0) 0x5b && (eqb (get_or t e 0) 0x5d && closed (slice a e t)))

-- value k does
abbrev pub value_right : (t vl : List ℕ) → ℕ → Bool
value_right t vl k = in_brackets_closed t (val_from_at vl k) (val_to_at vl k)

-- all of it
unfoldable pub spans_fit : List ℕ → Counts → (pr vl : List ℕ) → Bool
spans_fit t c pr vl =
    ascending (length t) 0 (spans pr vl 0 c.properties)
    && each c.properties (name_right t pr)
    && each c.values (value_right t vl)
