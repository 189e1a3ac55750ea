-- Numbers of rows that suffice for a text of so many bytes.
use Rattle.std.specs.Prelude.{◌+◌, ◌-◌, ◌/◌, ◌≤◌}
use Rattle.lists.specs.Prelude.{ℕ, max, length}
use Rattle.tables.specs.declared.Counts.{Counts}
use Rattle.tables.specs.Columns.{tree_stride, node_stride, property_stride, value_stride}
use Rattle.reader.specs.Lent.{Lent}

-- rows of each kind
pub record Rows : Type 0 where
  pub trees : ℕ
  pub nodes : ℕ
  pub properties : ℕ
  pub values : ℕ

-- for a strict reading of n bytes (SCOPE 120)
abbrev pub strict_rows : ℕ → Rows
strict_rows n = record { trees = n / 3; nodes = n - 2; properties = (n - 2) / 3; values = (n - 3) / 2 }

-- for a lenient one
abbrev pub lenient_rows : ℕ → Rows
lenient_rows n = record { trees = max 1 ((n + 1) / 2); nodes = max 1 (n - 1); properties = (n - 1) / 3; values = (n - 2) / 2 }

-- no more rows are needed
abbrev pub Suffices : Rows → Counts → Type 0
Suffices r c = (c.trees ≤ r.trees) × (c.nodes ≤ r.nodes) × (c.properties ≤ r.properties) × (c.values ≤ r.values)

-- so many rows are lent
abbrev pub Lends : Rows → Lent → Type 0
Lends r l =
    (r.trees ≤ length l.trees / tree_stride)
    × (r.nodes ≤ length l.nodes / node_stride)
    × (r.properties ≤ length l.props / property_stride)
    × (r.values ≤ length l.vals / value_stride)
