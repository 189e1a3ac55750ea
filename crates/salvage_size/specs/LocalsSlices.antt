-- Length and depth of the writing of the mended record, slice by slice over the tokens. Nothing public is stated by these.
use Rattle.std.specs.Prelude.{◌+◌, ◌*◌, ◌∷◌}
use Rattle.lists.specs.Prelude.{ℕ, max, true, false, List, [], length}
use Rattle.lexer.specs.Token.{Tok}
use Rattle.tables.specs.Numbers.{none}
use Rattle.tables.specs.Record.{Node}
use Rattle.tables.specs.Rows.{parents}
use Rattle.parser.specs.Walk.{walk, walked}
use Rattle.fit_rule.specs.Rule.{first_props}
use Rattle.salvage_list.specs.Listed.{walk_nodes}
use Rattle.salvage_form.specs.Rooted.{root_rule}
use Rattle.salvage_shape.specs.LocalsShape.{shape_depth, brackets_of}
use Rattle.salvage_shape.specs.LocalsSum.{nodes_length}

-- the mended tree of nodes: its brackets, a `;` each, two for each node in brackets, what is left of the properties; without a node, an empty root
abbrev pub tree_length : List Node → ℕ
tree_length ns = 2 + max 1 (length ns) + 2 * brackets_of (parents ns) + nodes_length (root_rule (first_props ns)) ns

-- the nodes of a slice, numbered from base on
abbrev pub slice_nodes : (base : ℕ) → List Tok → List Node
slice_nodes base s = walk_nodes (walked true base (walk none [] false []) s)

-- the trees of slices, one after another
abbrev pub slices_length : (base : ℕ) → List (List Tok) → ℕ
slices_length base [] = 0
slices_length base (s ∷ ss) = tree_length (slice_nodes base s) + slices_length (base + max 1 (length (slice_nodes base s))) ss

-- the depth of the deepest
abbrev pub slices_depth : (base : ℕ) → List (List Tok) → ℕ
slices_depth base [] = 0
slices_depth base (s ∷ ss) = max (shape_depth base (parents (slice_nodes base s))) (slices_depth (base + max 1 (length (slice_nodes base s))) ss)
