-- Properties by their rows: what the identifier reads as, and the raw values.
use Rattle.std.specs.Prelude.{◌-◌, ◌/◌}
use Rattle.lists.specs.Prelude.{ℕ, min, Bool, List, [], ltb, length, pick}
use Rattle.lists.specs.Same.{same}
use Rattle.values.specs.Read.{read_identifier}
use Rattle.parts.specs.Rows.{cut, values_at}
use Rattle.tables.specs.Columns.{property_stride, name_from_at, name_to_at, first_val_at, val_count_at}
use Rattle.tables.specs.Each.{tabulate}

-- a property as it is asked: its read identifier and its raw values
pub record Property : Type 0 where
  pub name : List ℕ
  pub raws : List (List ℕ)

-- how many rows there are from `first` on, at most `count`
abbrev pub rows_from : (pr : List ℕ) (first count : ℕ) → ℕ
rows_from pr first count = min count (length pr / property_stride - first)

-- the raw identifier of row p; nothing where there is no such row
unfoldable pub identifier_at : (text pr : List ℕ) → ℕ → List ℕ
identifier_at text pr p = pick (ltb p (length pr / property_stride)) (cut text (name_from_at pr p) (name_to_at pr p)) []

-- it reads as w
abbrev pub named_at : (text pr w : List ℕ) → ℕ → Bool
named_at text pr w p = same (read_identifier (identifier_at text pr p)) w

-- the property of row p
abbrev pub property_at : (text pr vl : List ℕ) → ℕ → Property
property_at text pr vl p =
    record { name = read_identifier (identifier_at text pr p); raws = values_at text vl (first_val_at pr p) (val_count_at pr p) }

-- the properties of the rows from `first` on, at most `count`
unfoldable pub properties_at : (text pr vl : List ℕ) (first count : ℕ) → List Property
properties_at text pr vl first count = tabulate (property_at text pr vl) first (rows_from pr first count)
