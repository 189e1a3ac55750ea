-- How many rows there are, and what the room test says. Assumes nothing.
use Rattle.lists.proofs.Prelude.{suc, ◌*◌, ◌/◌, ◌≤◌, ◌≡◌, refl, ap, true, ◌&&◌, List, [], ◌∷◌, arith, length, leb, leb-true}
use Rattle.tables.specs.Record.{Tree}
use Rattle.tables.specs.Rows.{tree_rows, NodeRow}
use Rattle.tables.specs.Flat.{flat_nodes}
use Rattle.tables.specs.declared.Counts.{Counts}
use Rattle.reader.specs.Lent.{Lent, room_for}
use Rattle.tables.proofs.Cases.{and_left, and_right}
use Rattle.tables.specs.Columns.{node_stride}

pub tree-count : (ts : List Tree) → length (tree_rows ts) ≡ length ts
tree-count [] = refl
tree-count (t ∷ ts) = ap suc (tree-count ts)

pub flat-nodes : (rs : List NodeRow) → length (flat_nodes rs) ≡ length rs * node_stride
flat-nodes [] = refl
flat-nodes (r ∷ rs) = let h = flat-nodes rs in omega arith

-- so many rows are lent
pub record Room (c : Counts) (l : Lent) : Type 0 where
  pub trees : c.trees ≤ length l.trees / 2
  pub nodes : c.nodes ≤ length l.nodes / node_stride
  pub props : c.properties ≤ length l.props / 4
  pub vals : c.values ≤ length l.vals / 2

pub room-true : (c : Counts) (l : Lent) → room_for c (length l.trees) (length l.nodes) (length l.props) (length l.vals) ≡ true → Room c l
room-true c l e =
    let a1 = leb c.trees (length l.trees / 2) in
    let a2 = leb c.nodes (length l.nodes / node_stride) in
    let a3 = leb c.properties (length l.props / 4) in
    let a4 = leb c.values (length l.vals / 2) in
    let e3 = and_left (a1 && a2 && a3) a4 e in
    let e2 = and_left (a1 && a2) a3 e3 in
    record {
      trees = leb-true _ _ (and_left a1 a2 e2);
      nodes = leb-true _ _ (and_right a1 a2 e2);
      props = leb-true _ _ (and_right (a1 && a2) a3 e3);
      vals = leb-true _ _ (and_right (a1 && a2 && a3) a4 e);
    }
