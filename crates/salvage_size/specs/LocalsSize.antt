-- How many bytes a record is written in, counted property by property and node by node; and how deep its trees stand then. Nothing public is stated by these.
use Rattle.std.specs.Prelude.{◌+◌, ◌*◌, ◌∷◌}
use Rattle.lists.specs.Prelude.{ℕ, suc, max, List, []}
use Rattle.lexer.specs.Token.{Prop}
use Rattle.tables.specs.Record.{Node, Tree}
use Rattle.tables.specs.Rows.{parents}
use Rattle.fit_rule.specs.Rule.{rule_of}
use Rattle.salvage_form.specs.Measured.{length_of}
use Rattle.salvage_shape.specs.LocalsShape.{shape_depth, brackets_of}

-- the properties of a node, in a tree with this rule
abbrev pub props_size : (rule : ℕ) → List Prop → ℕ
props_size rule [] = 0
props_size rule (p ∷ ps) = length_of rule p + props_size rule ps

-- nodes: each has its `;` and its properties
abbrev pub nodes_size : (rule : ℕ) → List Node → ℕ
nodes_size rule [] = 0
nodes_size rule (n ∷ ns) = suc (props_size rule n.props) + nodes_size rule ns

-- a tree: its own brackets, its nodes, and two for each node that stands in brackets
abbrev pub tree_size : Tree → ℕ
tree_size t = 2 + (nodes_size (rule_of t) t.nodes + 2 * brackets_of (parents t.nodes))

-- all trees
abbrev pub trees_size : List Tree → ℕ
trees_size [] = 0
trees_size (t ∷ ts) = tree_size t + trees_size ts

-- the depth of the deepest tree
abbrev pub trees_depth : List Tree → ℕ
trees_depth [] = 0
trees_depth (t ∷ ts) = max (shape_depth t.root (parents t.nodes)) (trees_depth ts)
