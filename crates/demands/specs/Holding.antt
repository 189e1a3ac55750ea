-- Memory as a reading leaves it.
use Rattle.lists.specs.Prelude.{ℕ, List, length}
use Rattle.tables.specs.Memory.{Memory, memory}
use Rattle.tables.specs.declared.Counts.{Counts}
use Rattle.reader.specs.Lent.{Lent}

-- a text that is used whole, the counts that a reading of it gave back, and the tables that it left
abbrev pub holding : List ℕ → Counts → Lent → Memory
holding t c l = memory t (length t) c l.trees l.nodes l.props l.vals
