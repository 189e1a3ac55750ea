-- The tables as they are lent: the numbers of the rows, one behind the other.
use Rattle.std.specs.Prelude.{◌∷◌, ◌++◌}
use Rattle.lists.specs.Prelude.{ℕ, List, [], length, drop}
use Rattle.tables.specs.Rows.{TreeRow, NodeRow, PropRow, ValRow}

-- root, game type (SCOPE 9)
abbrev pub flat_trees : List TreeRow → List ℕ
flat_trees [] = []
flat_trees (r ∷ rs) = r.root ∷ r.game ∷ flat_trees rs

-- parent, first child, next sibling, first property, property count, depth (SCOPE 10)
abbrev pub flat_nodes : List NodeRow → List ℕ
flat_nodes [] = []
flat_nodes (r ∷ rs) = r.parent ∷ r.child ∷ r.sibling ∷ r.first ∷ r.count ∷ r.depth ∷ flat_nodes rs

-- identifier start and end, first value, value count (SCOPE 11)
abbrev pub flat_props : List PropRow → List ℕ
flat_props [] = []
flat_props (r ∷ rs) = r.from ∷ r.to ∷ r.first ∷ r.count ∷ flat_props rs

-- start and end (SCOPE 12)
abbrev pub flat_vals : List ValRow → List ℕ
flat_vals [] = []
flat_vals (r ∷ rs) = r.from ∷ r.to ∷ flat_vals rs

-- numbers in front, and behind them what was lent (SCOPE 58, 128)
abbrev pub over : List ℕ → List ℕ → List ℕ
over xs t = xs ++ drop (length xs) t
