-- Records and rows with their places moved, as an edit of a value moves them.
use Rattle.lists.specs.Prelude.{ℕ, List, map}
use Rattle.lexer.specs.Move.{move_prop}
use Rattle.tables.specs.Record.{Node, Tree}
use Rattle.tables.specs.Rows.{Tables, PropRow, ValRow}

-- f moves a start, g an end, h gives the bytes of a value that starts at a place
module _ (f g : ℕ → ℕ) (h : ℕ → List ℕ → List ℕ) where
  -- a node moved
  abbrev pub move_node : Node → Node
  move_node n = record { parent = n.parent; props = map (move_prop f g h) n.props }

  -- a tree moved
  abbrev pub move_tree : Tree → Tree
  move_tree t = record { root = t.root; game = t.game; nodes = map move_node t.nodes }

-- f moves a start, g an end
module _ (f g : ℕ → ℕ) where
  -- a property's row moved
  abbrev pub move_props : PropRow → PropRow
  move_props r = record { from = f r.from; to = g r.to; first = r.first; count = r.count }

  -- a value's row moved
  abbrev pub move_vals : ValRow → ValRow
  move_vals r = record { from = f r.from; to = g r.to }

  -- the tables moved: trees and nodes stay
  abbrev pub move_tables : Tables → Tables
  move_tables T = record { trees = T.trees; nodes = T.nodes; props = map move_props T.props; vals = map move_vals T.vals }
