-- The writing of trees: each node with its children, by recursion; values as they are raw.
use Rattle.std.specs.Prelude.{◌||◌, ◌∷◌, ◌++◌}
use Rattle.lists.specs.Prelude.{ℕ, suc, Bool, true, false, List, [], length, leb, eqb, pick}
use Rattle.lexer.specs.Token.{Val, Prop}
use Rattle.tables.specs.Numbers.{none}
use Rattle.tables.specs.Record.{Node, Tree}
use Rattle.values.specs.Read.{read_identifier}

-- nodes side by side: none; or the properties of the first, its children, and the nodes after it
pub data Nodes : Type 0 where
  bare : Nodes
  stand : List Prop → (children after : Nodes) → Nodes

-- a node, the number of its parent or none, and its children
pub record Hung : Type 0 where
  pub parent : ℕ
  pub props : List Prop
  pub children : Nodes

-- of such nodes, those whose parent is p, in order
abbrev pub under : (p : ℕ) → List Hung → Nodes
under p [] = bare
under p (h ∷ hs) = let r = under p hs in pick (eqb h.parent p) (stand h.props h.children r) r

-- the nodes from number k on with their children: of node k, the later nodes whose parent is k (SCOPE 109)
abbrev pub hung : (k : ℕ) → List Node → List Hung
hung k [] = []
hung k (n ∷ ns) = let r = hung (suc k) ns in record { parent = n.parent; props = n.props; children = under k r } ∷ r

-- the values in their brackets
abbrev pub vals_text : List Val → List ℕ
vals_text [] = []
vals_text (v ∷ vs) = 0x5b ∷ (v.raw ++ (0x5d ∷ vals_text vs))

-- read identifiers and values (SCOPE 110)
abbrev pub write_props : List Prop → List ℕ
write_props [] = []
write_props (p ∷ ps) = read_identifier p.name ++ (vals_text p.vals ++ write_props ps)

-- two or more
abbrev pub several : Nodes → Bool
several bare = false
several (stand ps cs bare) = false
several (stand ps cs (stand qs ds ns)) = true

-- in brackets, or as it is
abbrev pub enclosed : (brackets : Bool) → List ℕ → List ℕ
enclosed true w = 0x28 ∷ (w ++ (0x29 ∷ []))
enclosed false w = w

-- a node is `;`, properties, then its children: one child follows directly, two or more stand each in brackets (SCOPE 109)
abbrev pub nodes_text : (brackets : Bool) → Nodes → List ℕ
nodes_text b bare = []
nodes_text b (stand ps cs ns) = enclosed b (0x3b ∷ (write_props ps ++ nodes_text (several cs) cs)) ++ nodes_text b ns

-- each tree is `(`, its root, `)`: the root is the node that has no parent (SCOPE 108)
abbrev pub tree_text : Tree → List ℕ
tree_text t = enclosed true (nodes_text false (under none (hung t.root t.nodes)))

-- all trees
abbrev pub trees_text : List Tree → List ℕ
trees_text [] = []
trees_text (t ∷ ts) = tree_text t ++ trees_text ts

-- an identifier reads as empty (SCOPE 46)
abbrev pub nameless : List Prop → Bool
nameless [] = false
nameless (p ∷ ps) = leb (length (read_identifier p.name)) 0 || nameless ps
