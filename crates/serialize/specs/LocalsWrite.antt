-- The writing as a walk over the nodes, in order, with the open nodes on a path: steps towards the code, which Branch is proved equal to.
use Rattle.std.specs.Prelude.{◌∷◌, ◌++◌}
use Rattle.lists.specs.Prelude.{ℕ, suc, Bool, true, false, List, [], leb, eqb, pick}
use Rattle.tables.specs.Numbers.{none}
use Rattle.tables.specs.Record.{Node, Tree}
use Rattle.tables.specs.Rows.{parents}
use Rattle.serialize.specs.Branch.{write_props}

-- an open node: its number, and whether it stands in brackets
pub record Open : Type 0 where
  pub num : ℕ
  pub brk : Bool

-- how many of the parents are p
abbrev pub times : ℕ → List ℕ → ℕ
times p [] = 0
times p (q ∷ qs) = let r = times p qs in pick (eqb q p) (suc r) r

-- a node stands in brackets where it has a sibling; p is its parent, ps all parents of the tree
abbrev pub bracketed : List ℕ → ℕ → Bool
bracketed ps p = leb 2 (times p ps)

-- an end for a node that stands in brackets
abbrev pub shuts : Bool → List ℕ → List ℕ
shuts true r = 0x29 ∷ r
shuts false r = r

-- the ends before a node whose parent is p
abbrev pub ends_text : ℕ → List Open → List ℕ
ends_text p [] = []
ends_text p (x ∷ xs) = let r = shuts x.brk (ends_text p xs) in pick (eqb x.num p) [] r

-- the path that is left then
abbrev pub path_left : ℕ → List Open → List Open
path_left p [] = []
path_left p (x ∷ xs) = let r = path_left p xs in pick (eqb x.num p) (x ∷ xs) r

-- a start for such a node
abbrev pub opened : Bool → List ℕ → List ℕ
opened true r = 0x28 ∷ r
opened false r = r

-- the nodes from number k on: ends, perhaps a start, `;`, properties; at last all ends
abbrev pub write_nodes : (ps : List ℕ) (k : ℕ) → List Open → List Node → List ℕ
write_nodes ps k path [] = ends_text none path
write_nodes ps k path (n ∷ ns) =
    ends_text n.parent path
    ++ opened (bracketed ps n.parent)
    (0x3b ∷ (write_props n.props ++ write_nodes ps (suc k) (record { num = k; brk = bracketed ps n.parent } ∷ path_left n.parent path) ns))

-- each tree is `(`, its root, `)`
abbrev pub write_tree : Tree → List ℕ
write_tree t = 0x28 ∷ (write_nodes (parents t.nodes) t.root [] t.nodes ++ (0x29 ∷ []))

-- all trees
abbrev pub write_trees : List Tree → List ℕ
write_trees [] = []
write_trees (t ∷ ts) = write_tree t ++ write_trees ts
