-- Value access: what is answered, and what is handed out.
use Rattle.lists.specs.Prelude.{ℕ, List, [], ltb, slice, pick}
use Rattle.tables.specs.Numbers.{number_of}
use Rattle.tables.specs.declared.Reason.TheVariants.{NoSuchNumber, NotFitting}
use Rattle.tables.specs.Columns.{val_from_at, val_to_at}
use Rattle.tables.specs.Memory.{Memory}
use Rattle.fit.specs.Fit.{Fit}
use Rattle.std.specs.Prelude.{Result, Ok, Err}
use Rattle.tables.specs.declared.Reason.{Reason}

-- 19 where the tables don't fit the text; then 16 where k is not below the count; else the span of value k (SCOPE 47, 50, 64)
unfoldable pub accessed : Memory → ℕ → Result (ℕ × ℕ) Reason
accessed m k =
    pick (Fit m)
    (pick (ltb k m.counts.values) (Ok (val_from_at m.values k, val_to_at m.values k)) (Err NoSuchNumber))
    (Err NotFitting)

-- the number given back
abbrev pub access_number : Result (ℕ × ℕ) Reason → ℕ
access_number (Ok (a, e)) = 0
access_number (Err r) = number_of r

-- the part of the text that is handed out; a refusal hands out the empty part (SCOPE 64)
abbrev pub handed : List ℕ → Result (ℕ × ℕ) Reason → List ℕ
handed t (Ok (a, e)) = slice a e t
handed t (Err r) = []

-- the raw bytes of value k (SCOPE 15)
abbrev pub raw_value : Memory → ℕ → List ℕ
raw_value m k = handed m.text (accessed m k)
