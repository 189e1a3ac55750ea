-- The sums of a record that fits stay below where they stop, so that stones are conserved. Assumes nothing.
use Rattle.lists.proofs.Prelude.{ℕ, zero, suc, ◌+◌, ◌*◌, ◌≤◌, ◌<◌, Bool, true, false, ◌≡◌, refl, ap, List, [], ◌∷◌, ◌++◌, map, map-append, length, length-append, ltb, pick, arith, ltb-true}
use Rattle.lists.proofs.Tests.{and_both}
use Rattle.tables.proofs.Tabulate.{tabulate-length}
use Rattle.tables.specs.Columns.{parent_at, first_prop_at, prop_count_at}
use Rattle.tables.specs.Memory.{Memory}
use Rattle.fit_nodes.specs.Nodes.{has_parent}
use Rattle.fit_nodes.proofs.Path.{has-before}
use Rattle.fit_spans.specs.Spans.{spans}
use Rattle.fit_spans.proofs.Ranges.{gapless-in}
use Rattle.fit.specs.Fit.{Fit}
use Rattle.fit.specs.Record.{text_in}
use Rattle.fit.proofs.Clauses.{Clauses, fit-clauses}
use Rattle.parts_props.specs.Props.{Property, property_at, rows_from, properties_at}
use Rattle.board_groups.specs.Board.{standing}
use Rattle.board_play.specs.Steps.{Act, sum_most}
use Rattle.board_node.specs.Node.{acts_of}
use Rattle.board_path.specs.Way.{way_up, way_to}
use Rattle.board.specs.Answer.{node_properties, way_properties, is_go_node, said_size, columns_by, rows_by, way_acts, way_number, board_number, BoardIs}
use Rattle.board.specs.declared.SgfBoard.{SgfBoard}
use Rattle.board.proofs.Counted.{steps-most, acts-few, ascending-few, spans-many}
use Rattle.board.proofs.Unique.{board-conserved}
use Rattle.board.proofs.Ways.{acts-one}

module _ (m : Memory) (fit : Fit m ≡ true) (w h : ℕ) where
  cl : Clauses (text_in m) m.counts m.trees m.nodes m.properties m.values
  cl = fit-clauses m fit

  properties-few : m.counts.properties ≤ 1048577
  properties-few =
      let a = ascending-few (length (text_in m)) 0 (spans m.properties m.values 0 m.counts.properties) cl.ascend (omega arith) in
      let b = spans-many m.properties m.values 0 m.counts.properties in
      let c = cl.short in
      omega arith

  node-few : (k : ℕ) → k < m.counts.nodes → length (acts_of w h (node_properties (text_in m) m.nodes m.properties m.values k)) ≤ 2836400785
  unfolding node_properties properties_at
  node-few k l =
      let ps = node_properties (text_in m) m.nodes m.properties m.values k in
      let a = acts-few w h ps in
      let b = tabulate-length (property_at (text_in m) m.properties m.values) (first_prop_at m.nodes k) (rows_from m.properties (first_prop_at m.nodes k) (prop_count_at m.nodes k)) in
      let c = gapless-in (first_prop_at m.nodes) (prop_count_at m.nodes) m.counts.nodes m.counts.properties cl.node-ranges k l in
      let d = properties-few in
      omega arith

  way-few : (f k : ℕ) → k < m.counts.nodes
      → length (way_acts w h (map (node_properties (text_in m) m.nodes m.properties m.values) (way_up m.nodes f k))) ≤ suc f * 2836400785
  unfolding way_up
  way-few zero k l = omega (arith, node-few k l, length-append (acts_of w h (node_properties (text_in m) m.nodes m.properties m.values k)) [])
  way-few (suc f) k l = go (has_parent m.nodes k) refl (λ q. way-few f (parent_at m.nodes k) q)
    where
      go : (t : Bool) → has_parent m.nodes k ≡ t
          → (parent_at m.nodes k < m.counts.nodes → length (way_acts w h (map (node_properties (text_in m) m.nodes m.properties m.values) (way_up m.nodes f (parent_at m.nodes k)))) ≤ suc f * 2836400785)
          → length (way_acts w h (map (node_properties (text_in m) m.nodes m.properties m.values) (pick t (way_up m.nodes f (parent_at m.nodes k) ++ (k ∷ [])) (k ∷ [])))) ≤ suc (suc f) * 2836400785
      go true e r =
          let b = (has-before m.nodes k e).0 in
          let x = r (omega arith) in
          let p = ap (λ (z : List (List Property)). length (way_acts w h z)) (map-append (node_properties (text_in m) m.nodes m.properties m.values) (way_up m.nodes f (parent_at m.nodes k)) (k ∷ [])) in
          let q = ap (λ (z : List Act). length z) (acts-one w h (map (node_properties (text_in m) m.nodes m.properties m.values) (way_up m.nodes f (parent_at m.nodes k))) (node_properties (text_in m) m.nodes m.properties m.values k)) in
          omega (arith, p, q, node-few k l, length-append (way_acts w h (map (node_properties (text_in m) m.nodes m.properties m.values) (way_up m.nodes f (parent_at m.nodes k)))) (acts_of w h (node_properties (text_in m) m.nodes m.properties m.values k)))
      go false e r = omega (arith, node-few k l, length-append (acts_of w h (node_properties (text_in m) m.nodes m.properties m.values k)) [])

module _ (m : Memory) (k : ℕ) where
  -- number 0 says that the tables fit, and that there is such a node
  played-fits : board_number m k ≡ 0 → (Fit m ≡ true) × (k < m.counts.nodes)
  unfolding board_number
  played-fits e = go (Fit m) (is_go_node m k) refl refl e
    where
      go : (t u : Bool) → Fit m ≡ t → is_go_node m k ≡ u → pick {A = ℕ} t (pick u (way_number (way_properties m k)) 21) 19 ≡ 0 → (Fit m ≡ true) × (k < m.counts.nodes)
      go true true x y z = (x, ltb-true k m.counts.nodes (and_both (ltb k m.counts.nodes) _ y).0)
      go true false x y z = absurd (omega arith)
      go false u x y z = absurd (omega arith)

  -- no sum of a board reaches the number where sums stop
  pub board-below : (r : SgfBoard) → BoardIs m k r → board_number m k ≡ 0 → (r.black.on < sum_most) × (r.white.on < sum_most)
  unfolding way_to
  board-below r f e =
      let p = played-fits e in
      let s = said_size (way_properties m k) in
      let x = steps-most (columns_by s) (rows_by s) (f.played e).acts in
      let y = way-few m p.0 (columns_by s) (rows_by s) k k p.1 in
      let n = (fit-clauses m p.0).held.below_none in
      let l = p.1 in
      let i = x.0 in
      let j = x.1 in
      (omega arith, omega arith)

  -- put on is what stands and what was taken off
  pub board-sums : (r : SgfBoard) → BoardIs m k r → board_number m k ≡ 0
      → (r.black.on ≡ standing 1 r.stones + r.black.off) × (r.white.on ≡ standing 2 r.stones + r.white.off)
  board-sums r f e =
      let b = board-below r f e in
      let c = board-conserved m k r f e in
      (c.black-even b.0, c.white-even b.1)
