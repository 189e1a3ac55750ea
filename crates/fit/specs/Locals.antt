-- What the check's own steps promise each other.
use Rattle.std.specs.Prelude.{◌/◌, ◌≤◌}
use Rattle.lists.specs.Prelude.{ℕ, List, length}
use Rattle.tables.specs.Numbers.{none}
use Rattle.tables.specs.declared.Counts.{Counts}
use Rattle.tables.specs.Columns.{tree_stride, node_stride, property_stride, value_stride}

-- so many rows are lent
pub record RowsLent (c : Counts) (tr nd pr vl : List ℕ) : Type 0 where
  pub trees : c.trees ≤ length tr / tree_stride
  pub nodes : c.nodes ≤ length nd / node_stride
  pub below_none : c.nodes ≤ none
  pub properties : c.properties ≤ length pr / property_stride
  pub values : c.values ≤ length vl / value_stride
