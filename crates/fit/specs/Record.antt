-- The record that tables over a text denote: names and raw values are parts of the text.
use Rattle.std.specs.Prelude.{◌-◌, ◌∷◌}
use Rattle.lists.specs.Prelude.{ℕ, List, [], map, take, drop, slice}
use Rattle.lexer.specs.Token.{Val, Prop}
use Rattle.tables.specs.Record.{Node, Tree}
use Rattle.tables.specs.Rows.{TreeRow, NodeRow, PropRow, ValRow, Tables}
use Rattle.tables.specs.declared.Counts.{Counts}
use Rattle.tables.specs.Columns.{root_at, game_at, parent_at, child_at, sibling_at, first_prop_at, prop_count_at, depth_at, name_from_at, name_to_at, first_val_at, val_count_at, val_from_at, val_to_at}
use Rattle.tables.specs.Each.{tabulate}
use Rattle.tables.specs.Memory.{Memory}

-- row k of the tree table
abbrev pub tree_row : List ℕ → ℕ → TreeRow
tree_row tr k = record { root = root_at tr k; game = game_at tr k }

-- of the node table
abbrev pub node_row : List ℕ → ℕ → NodeRow
node_row nd k =
    record {
      parent = parent_at nd k;
      child = child_at nd k;
      sibling = sibling_at nd k;
      first = first_prop_at nd k;
      count = prop_count_at nd k;
      depth = depth_at nd k;
    }

-- of the property table
abbrev pub prop_row : List ℕ → ℕ → PropRow
prop_row pr k = record { from = name_from_at pr k; to = name_to_at pr k; first = first_val_at pr k; count = val_count_at pr k }

-- of the value table
abbrev pub val_row : List ℕ → ℕ → ValRow
val_row vl k = record { from = val_from_at vl k; to = val_to_at vl k }

-- the rows that lent tables of these counts have
abbrev pub rows_of : Counts → (tr nd pr vl : List ℕ) → Tables
rows_of c tr nd pr vl =
    record {
      trees = tabulate (tree_row tr) 0 c.trees;
      nodes = tabulate (node_row nd) 0 c.nodes;
      props = tabulate (prop_row pr) 0 c.properties;
      vals = tabulate (val_row vl) 0 c.values;
    }

-- the rows of lent memory
abbrev pub rows_in : Memory → Tables
rows_in m = rows_of m.counts m.trees m.nodes m.properties m.values

-- its text as far as it is used
abbrev pub text_in : Memory → List ℕ
text_in m = take m.used m.text

-- a value of the text
abbrev pub val_of : List ℕ → ValRow → Val
val_of t r = record { from = r.from; to = r.to; raw = slice r.from r.to t }

-- the raw bytes of a value
abbrev pub raw_of : Val → List ℕ
raw_of v = v.raw

-- the raw values of a property
abbrev pub raws_of : Prop → List (List ℕ)
raws_of p = map raw_of p.vals

-- a property has `count` of the values from `first` on
abbrev pub prop_of : List ℕ → List Val → PropRow → Prop
prop_of t vs r = record { from = r.from; to = r.to; name = slice r.from r.to t; vals = take r.count (drop r.first vs) }

-- a node has `count` of the properties from `first` on
abbrev pub node_of : List Prop → NodeRow → Node
node_of ps r = record { parent = r.parent; props = take r.count (drop r.first ps) }

-- a tree has the nodes from its root up to the next root
abbrev pub trees_of : List Node → List TreeRow → List Tree
trees_of ns [] = []
trees_of ns (r ∷ []) = record { root = r.root; game = r.game; nodes = drop r.root ns } ∷ []
trees_of ns (r ∷ s ∷ rs) = record { root = r.root; game = r.game; nodes = take (s.root - r.root) (drop r.root ns) } ∷ trees_of ns (s ∷ rs)

-- the trees that rows denote
abbrev pub record_of : List ℕ → Tables → List Tree
record_of t T = trees_of (map (node_of (map (prop_of t (map (val_of t) T.vals)) T.props)) T.nodes) T.trees

-- the trees that lent memory denotes
abbrev pub record_in : Memory → List Tree
record_in m = record_of (text_in m) (rows_in m)
