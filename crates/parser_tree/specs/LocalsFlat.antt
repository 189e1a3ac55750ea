-- The rows of nodes before their links and depths are made.
use Rattle.std.specs.Prelude.{◌+◌, ◌∷◌}
use Rattle.lists.specs.Prelude.{ℕ, List, [], length}
use Rattle.tables.specs.Numbers.{none}
use Rattle.tables.specs.Record.{Node}
use Rattle.tables.specs.Rows.{NodeRow}

-- f: the first property of the first node
abbrev pub bare_rows : ℕ → List Node → List NodeRow
bare_rows f [] = []
bare_rows f (n ∷ ns) =
    record { parent = n.parent; child = none; sibling = none; first = f; count = length n.props; depth = 0 }
    ∷ bare_rows (f + length n.props) ns
