-- The cells of the four lent tables: the numbers of the rows stand one behind the other.
use Rattle.std.specs.Prelude.{◌+◌, ◌*◌}
use Rattle.lists.specs.Prelude.{ℕ, List, get_or}

-- numbers in a row of the tree table
abbrev pub tree_stride : ℕ
tree_stride = 2

-- in a row of the node table
abbrev pub node_stride : ℕ
node_stride = 6

-- in a row of the property table
abbrev pub property_stride : ℕ
property_stride = 4

-- in a row of the value table
abbrev pub value_stride : ℕ
value_stride = 2

-- tree k: its root node
abbrev pub root_at : List ℕ → ℕ → ℕ
root_at tr k = get_or tr (k * tree_stride) 0

-- its game type
abbrev pub game_at : List ℕ → ℕ → ℕ
game_at tr k = get_or tr (k * tree_stride + 1) 0

-- node k: its parent
abbrev pub parent_at : List ℕ → ℕ → ℕ
parent_at nd k = get_or nd (k * node_stride) 0

-- its first child
abbrev pub child_at : List ℕ → ℕ → ℕ
child_at nd k = get_or nd (k * node_stride + 1) 0

-- its next sibling
abbrev pub sibling_at : List ℕ → ℕ → ℕ
sibling_at nd k = get_or nd (k * node_stride + 2) 0

-- its first property
abbrev pub first_prop_at : List ℕ → ℕ → ℕ
first_prop_at nd k = get_or nd (k * node_stride + 3) 0

-- its property count
abbrev pub prop_count_at : List ℕ → ℕ → ℕ
prop_count_at nd k = get_or nd (k * node_stride + 4) 0

-- its depth
abbrev pub depth_at : List ℕ → ℕ → ℕ
depth_at nd k = get_or nd (k * node_stride + 5) 0

-- property k: where its identifier starts
abbrev pub name_from_at : List ℕ → ℕ → ℕ
name_from_at pr k = get_or pr (k * property_stride) 0

-- and ends
abbrev pub name_to_at : List ℕ → ℕ → ℕ
name_to_at pr k = get_or pr (k * property_stride + 1) 0

-- its first value
abbrev pub first_val_at : List ℕ → ℕ → ℕ
first_val_at pr k = get_or pr (k * property_stride + 2) 0

-- its value count
abbrev pub val_count_at : List ℕ → ℕ → ℕ
val_count_at pr k = get_or pr (k * property_stride + 3) 0

-- value k: where it starts
abbrev pub val_from_at : List ℕ → ℕ → ℕ
val_from_at vl k = get_or vl (k * value_stride) 0

-- and ends
abbrev pub val_to_at : List ℕ → ℕ → ℕ
val_to_at vl k = get_or vl (k * value_stride + 1) 0
