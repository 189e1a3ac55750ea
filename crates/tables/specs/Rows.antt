-- The rows of the four tables of a record.
use Rattle.std.specs.Prelude.{◌+◌, ◌&&◌, ◌∷◌, ◌++◌}
use Rattle.lists.specs.Prelude.{ℕ, suc, List, [], length, get_or, leb, ltb, eqb, pick}
use Rattle.lexer.specs.Token.{Val, Prop}
use Rattle.tables.specs.Numbers.{none}
use Rattle.tables.specs.Record.{Node, Tree, all_nodes, all_props, all_vals}
use Rattle.tables.specs.declared.Counts.{Counts}

-- a row of the tree table (SCOPE 9)
pub record TreeRow : Type 0 where
  pub root : ℕ
  pub game : ℕ

-- a row of the node table: first child, next sibling, first property, property count and depth beside the parent (SCOPE 10)
pub record NodeRow : Type 0 where
  pub parent : ℕ
  pub child : ℕ
  pub sibling : ℕ
  pub first : ℕ
  pub count : ℕ
  pub depth : ℕ

-- a row of the property table: identifier span, first value, value count (SCOPE 11)
pub record PropRow : Type 0 where
  pub from : ℕ
  pub to : ℕ
  pub first : ℕ
  pub count : ℕ

-- a row of the value table: the span between the brackets (SCOPE 12)
pub record ValRow : Type 0 where
  pub from : ℕ
  pub to : ℕ

-- all rows
pub record Tables : Type 0 where
  pub trees : List TreeRow
  pub nodes : List NodeRow
  pub props : List PropRow
  pub vals : List ValRow

-- how many rows there are of each kind
abbrev pub counts_of : Tables → Counts
counts_of T = record { trees = length T.trees; nodes = length T.nodes; properties = length T.props; values = length T.vals }

-- the first of the nodes, numbered from k by their parents, whose parent is p and whose number is at least lo
abbrev pub first_child_from : (p lo k : ℕ) → List ℕ → ℕ
first_child_from p lo k [] = none
first_child_from p lo k (q ∷ qs) = let r = first_child_from p lo (suc k) qs in pick (eqb p q && leb lo k) k r

-- root and game type
abbrev pub tree_rows : List Tree → List TreeRow
tree_rows [] = []
tree_rows (t ∷ ts) = record { root = t.root; game = t.game } ∷ tree_rows ts

-- the parents of the nodes
abbrev pub parents : List Node → List ℕ
parents [] = []
parents (n ∷ ns) = n.parent ∷ parents ns

-- the depth of the node behind those of the depths ds, by its parent: 0 at a root, else the parent's plus 1
abbrev pub depth_behind : (ds : List ℕ) (p : ℕ) → ℕ
depth_behind ds p = pick (ltb p (length ds)) (suc (get_or ds p 0)) 0

-- the depths ds, and behind them those of the nodes with these parents, from left to right
abbrev pub depths_from : (ds ps : List ℕ) → List ℕ
depths_from ds [] = ds
depths_from ds (p ∷ ps) = depths_from (ds ++ (depth_behind ds p ∷ [])) ps

-- the depths of the nodes with these parents
abbrev pub depths : List ℕ → List ℕ
depths ps = depths_from [] ps

-- ps: all parents; k: the number of the first of these nodes; f: its first property. Children are linked in ascending order, a root has no next sibling (SCOPE 10)
abbrev pub node_rows : (ps : List ℕ) (k f : ℕ) → List Node → List NodeRow
node_rows ps k f [] = []
node_rows ps k f (n ∷ ns) =
    record {
      parent = n.parent;
      child = first_child_from k 0 0 ps;
      sibling = pick (eqb n.parent none) none (first_child_from n.parent (suc k) 0 ps);
      first = f;
      count = length n.props;
      depth = get_or (depths ps) k 0;
    }
    ∷ node_rows ps (suc k) (f + length n.props) ns

-- f: the first value of the first property
abbrev pub prop_rows : ℕ → List Prop → List PropRow
prop_rows f [] = []
prop_rows f (p ∷ ps) = record { from = p.from; to = p.to; first = f; count = length p.vals } ∷ prop_rows (f + length p.vals) ps

-- the spans of the values
abbrev pub val_rows : List Val → List ValRow
val_rows [] = []
val_rows (v ∷ vs) = record { from = v.from; to = v.to } ∷ val_rows vs

-- the tables of a record (SCOPE 5, 8)
abbrev pub tables : List Tree → Tables
tables ts =
    record {
      trees = tree_rows ts;
      nodes = node_rows (parents (all_nodes ts)) 0 0 (all_nodes ts);
      props = prop_rows 0 (all_props (all_nodes ts));
      vals = val_rows (all_vals (all_props (all_nodes ts)));
    }
