-- The rows of trees whose places are moved: the rows, with their places moved. Assumes nothing.
use Rattle.lists.proofs.Prelude.{◌≡◌, refl, ℕ, suc, ◌+◌, List, [], ◌∷◌, map, map-append, length, length-map}
use Rattle.lexer.specs.Move.{move_prop, move_val}
use Rattle.lexer.specs.Token.{Prop, Val}
use Rattle.tables.specs.Move.{move_props, move_vals, move_node, move_tables, move_tree}
use Rattle.tables.specs.Record.{Node, Tree, all_nodes, all_props, all_vals}
use Rattle.tables.specs.Rows.{node_rows, parents, prop_rows, tables, tree_rows, val_rows}

module _ (f g : ℕ → ℕ) (h : ℕ → List ℕ → List ℕ) where
  pub nodes-move : (ts : List Tree) → all_nodes (map (move_tree f g h) ts) ≡ map (move_node f g h) (all_nodes ts)
  nodes-move [] = refl
  nodes-move (t ∷ ts) = rw (nodes-move ts, map-append (move_node f g h) t.nodes (all_nodes ts))

  pub props-move : (ns : List Node) → all_props (map (move_node f g h) ns) ≡ map (move_prop f g h) (all_props ns)
  props-move [] = refl
  props-move (n ∷ ns) = rw (props-move ns, map-append (move_prop f g h) n.props (all_props ns))

  pub vals-move : (ps : List Prop) → all_vals (map (move_prop f g h) ps) ≡ map (move_val f g h) (all_vals ps)
  vals-move [] = refl
  vals-move (p ∷ ps) = rw (vals-move ps, map-append (move_val f g h) p.vals (all_vals ps))

  tree_rows-move : (ts : List Tree) → tree_rows (map (move_tree f g h) ts) ≡ tree_rows ts
  tree_rows-move [] = refl
  tree_rows-move (t ∷ ts) = rw (tree_rows-move ts)

  pub parents-move : (ns : List Node) → parents (map (move_node f g h) ns) ≡ parents ns
  parents-move [] = refl
  parents-move (n ∷ ns) = rw (parents-move ns)

  node_rows-move : (ps : List ℕ) (k i : ℕ) (ns : List Node) → node_rows ps k i (map (move_node f g h) ns) ≡ node_rows ps k i ns
  node_rows-move ps k i [] = refl
  node_rows-move ps k i (n ∷ ns) = rw (length-map n.props (move_prop f g h), node_rows-move ps (suc k) (i + length n.props) ns)

  prop_rows-move : (i : ℕ) (ps : List Prop) → prop_rows i (map (move_prop f g h) ps) ≡ map (move_props f g) (prop_rows i ps)
  prop_rows-move i [] = refl
  prop_rows-move i (p ∷ ps) = rw (length-map p.vals (move_val f g h), prop_rows-move (i + length p.vals) ps)

  val_rows-move : (vs : List Val) → val_rows (map (move_val f g h) vs) ≡ map (move_vals f g) (val_rows vs)
  val_rows-move [] = refl
  val_rows-move (v ∷ vs) = rw (val_rows-move vs)

  pub tables-move : (ts : List Tree) → tables (map (move_tree f g h) ts) ≡ move_tables f g (tables ts)
  tables-move ts =
      rw (
        nodes-move ts,
        tree_rows-move ts,
        parents-move (all_nodes ts),
        node_rows-move (parents (all_nodes ts)) 0 0 (all_nodes ts),
        props-move (all_nodes ts),
        vals-move (all_props (all_nodes ts)),
        prop_rows-move 0 (all_props (all_nodes ts)),
        val_rows-move (all_vals (all_props (all_nodes ts))),
      )
