-- Used cells of lent tables.
use Rattle.std.specs.Prelude.{◌*◌, ◌≡◌}
use Rattle.lists.specs.Prelude.{Bool, length, take}
use Rattle.tables.specs.Columns.{tree_stride, node_stride, property_stride, value_stride}
use Rattle.tables.specs.Memory.{Memory}
use Rattle.tables.specs.declared.Counts.{Counts}
use Rattle.reader.specs.Lent.{Lent, lent, room_for}
use Rattle.c_answers.specs.declared.SgfReading.{SgfReading}

-- the four tables of lent memory
abbrev pub tables_in : Memory → Lent
tables_in m = lent m.trees m.nodes m.properties m.values

-- so many rows are lent
abbrev pub has_room : Counts → Lent → Bool
has_room c l = room_for c (length l.trees) (length l.nodes) (length l.props) (length l.vals)

-- the same numbers in so many rows of each table
pub record SameCells (c : Counts) (a b : Lent) : Type 0 where
  pub trees : take (c.trees * tree_stride) a.trees ≡ take (c.trees * tree_stride) b.trees
  pub nodes : take (c.nodes * node_stride) a.nodes ≡ take (c.nodes * node_stride) b.nodes
  pub properties : take (c.properties * property_stride) a.props ≡ take (c.properties * property_stride) b.props
  pub values : take (c.values * value_stride) a.vals ≡ take (c.values * value_stride) b.vals

-- the counts that an exported reading gives back
abbrev pub counts_read : SgfReading → Counts
counts_read r = r.counts
