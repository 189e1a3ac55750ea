-- A record: trees of nodes of properties of values, with names and raw values beside their places.
use Rattle.std.specs.Prelude.{◌∷◌, ◌++◌}
use Rattle.lists.specs.Prelude.{ℕ, List, []}
use Rattle.lexer.specs.Token.{Val, Prop}

-- a node: the number of its parent or none, and its properties
pub record Node : Type 0 where
  pub parent : ℕ
  pub props : List Prop

-- a tree: the number of its root, its game type (0 Go, 1 Unknown), its nodes in text order
pub record Tree : Type 0 where
  pub root : ℕ
  pub game : ℕ
  pub nodes : List Node

-- the nodes of the trees, numbered from 0 (SCOPE 8)
abbrev pub all_nodes : List Tree → List Node
all_nodes [] = []
all_nodes (t ∷ ts) = t.nodes ++ all_nodes ts

-- the properties of the nodes, numbered from 0 (SCOPE 8)
abbrev pub all_props : List Node → List Prop
all_props [] = []
all_props (n ∷ ns) = n.props ++ all_props ns

-- the values of the properties, numbered from 0 (SCOPE 8)
abbrev pub all_vals : List Prop → List Val
all_vals [] = []
all_vals (p ∷ ps) = p.vals ++ all_vals ps
