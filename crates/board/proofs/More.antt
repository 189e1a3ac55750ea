-- One node more: its properties upon the board of its parent are its board. Assumes nothing.
use Rattle.lists.proofs.Prelude.{ℕ, zero, suc, ◌<◌, Bool, true, false, ◌&&◌, ◌≡◌, refl, sym, ap, ap₂, ◌∙◌, subst, subst₂, List, [], ◌∷◌, ◌++◌, map, map-append, length, length-append, leb, eqb, pick, arith, lt-ltb, le-leb, lt-leb}
use Rattle.lists.proofs.Tests.{same_or}
use Rattle.tables.proofs.Cases.{either-bool, true-false, below_or}
use Rattle.tables.specs.Columns.{root_at, parent_at, game_at}
use Rattle.tables.specs.Memory.{Memory}
use Rattle.fit_nodes.specs.Nodes.{has_parent, on_path}
use Rattle.fit_nodes.proofs.Path.{has-before, has-none, path-self, path-up, path-out}
use Rattle.fit_nodes.proofs.Rule.{on-between}
use Rattle.fit.specs.Fit.{Fit}
use Rattle.fit.specs.Record.{text_in}
use Rattle.fit.proofs.Clauses.{Clauses, fit-clauses}
use Rattle.fit.proofs.RootRows.{root_in}
use Rattle.parts_props.specs.Props.{Property}
use Rattle.go_size.specs.declared.RootSize.{RootSize}
use Rattle.board_play.specs.Steps.{Act, Steps, empty_pos}
use Rattle.board_node.specs.Node.{acts_of, right_node}
use Rattle.board_path.specs.Way.{way_up, way_to}
use Rattle.board_path.proofs.Ways.{way-child}
use Rattle.board.specs.Answer.{node_properties, way_properties, tree_over, is_go_node, said_size, is_wrong, columns_by, rows_by, way_right, way_number, board_number, unreserved, pos_in, PlayedBoard, SizedBoard, BoardIs, NextBoardIs}
use Rattle.board.specs.declared.SgfBoard.{SgfBoard}
use Rattle.board.proofs.Answers.{refused-by}
use Rattle.board.proofs.Ways.{steps_then, right-one, acts-one}

-- a way has a node
way-some : (nd : List ℕ) (f k : ℕ) → 0 < length (way_up nd f k)
unfolding way_up
way-some nd zero k = omega arith
way-some nd (suc f) k = go (has_parent nd k)
  where
    go : (t : Bool) → 0 < length (pick t (way_up nd f (parent_at nd k) ++ (k ∷ [])) (k ∷ []))
    go true = omega (arith, length-append (way_up nd f (parent_at nd k)) (k ∷ []))
    go false = omega arith

said_more : (P : ℕ → List Property) (xs : List ℕ) (ys : List (List Property)) → 0 < length xs → said_size (map P xs ++ ys) ≡ said_size (map P xs)
said_more P [] ys l = absurd (omega arith)
said_more P (x ∷ xs) ys l = refl

over-alike : (tr : List ℕ) (p k n : ℕ) → ((i : ℕ) → i < n → leb (root_at tr i) p ≡ leb (root_at tr i) k) → tree_over tr p n ≡ tree_over tr k n
unfolding tree_over
over-alike tr p k zero f = refl
over-alike tr p k (suc n) f =
    ap₂ (λ (b : Bool) (z : ℕ). pick b n z) (f n (omega arith)) (over-alike tr p k n (λ i l. f i (omega arith)))

-- what is wrong of a way stays wrong with one node more
number-stays : (xs : List (List Property)) (ps : List Property) (n : ℕ) → said_size (xs ++ (ps ∷ [])) ≡ said_size xs → way_number xs ≡ n → (n ≡ 0 → ⊥)
    → way_number (xs ++ (ps ∷ [])) ≡ n
unfolding way_number
number-stays xs ps n e f some =
    ap (λ (s : RootSize). pick (is_wrong s) 22 (pick (way_right (columns_by s) (rows_by s) (xs ++ (ps ∷ []))) 0 23)) e
    ∙ go (is_wrong (said_size xs)) (way_right (columns_by (said_size xs)) (rows_by (said_size xs)) xs) f
    (λ w. right-one (columns_by (said_size xs)) (rows_by (said_size xs)) xs ps false (right_node (columns_by (said_size xs)) (rows_by (said_size xs)) ps) w refl) refl
  where
    go : (u v : Bool) → pick u 22 (pick v 0 23) ≡ n
        → (way_right (columns_by (said_size xs)) (rows_by (said_size xs)) xs ≡ false → way_right (columns_by (said_size xs)) (rows_by (said_size xs)) (xs ++ (ps ∷ [])) ≡ false)
        → way_right (columns_by (said_size xs)) (rows_by (said_size xs)) xs ≡ v
        → pick u 22 (pick (way_right (columns_by (said_size xs)) (rows_by (said_size xs)) (xs ++ (ps ∷ []))) 0 23) ≡ n
    go true v x g y = x
    go false true x g y = absurd (some (sym x))
    go false false x g y = ap (λ (z : Bool). pick {A = ℕ} z 0 23) (g y) ∙ x

-- what number 0 says of a way
number-right : (xs : List (List Property)) → way_number xs ≡ 0 → (is_wrong (said_size xs) ≡ false) × (way_right (columns_by (said_size xs)) (rows_by (said_size xs)) xs ≡ true)
unfolding way_number
number-right xs f = go (is_wrong (said_size xs)) (way_right (columns_by (said_size xs)) (rows_by (said_size xs)) xs) f
  where
    go : (u v : Bool) → pick {A = ℕ} u 22 (pick v 0 23) ≡ 0 → (u ≡ false) × (v ≡ true)
    go true v x = absurd (omega arith)
    go false true x = (refl, refl)
    go false false x = absurd (omega arith)

-- a right way with one node more
number_more : (xs : List (List Property)) (ps : List Property) (v : Bool) → said_size (xs ++ (ps ∷ [])) ≡ said_size xs → way_number xs ≡ 0
    → right_node (columns_by (said_size xs)) (rows_by (said_size xs)) ps ≡ v → way_number (xs ++ (ps ∷ [])) ≡ pick v 0 23
unfolding way_number
number_more xs ps v e f g = let x = number-right xs f in number_by x.0 (right-one (columns_by (said_size xs)) (rows_by (said_size xs)) xs ps true v x.1 g)
  where
    number_by : is_wrong (said_size xs) ≡ false → way_right (columns_by (said_size xs)) (rows_by (said_size xs)) (xs ++ (ps ∷ [])) ≡ v → way_number (xs ++ (ps ∷ [])) ≡ pick v 0 23
    number_by u w =
        ap (λ (s : RootSize). pick (is_wrong s) 22 (pick (way_right (columns_by s) (rows_by s) (xs ++ (ps ∷ []))) 0 23)) e
        ∙ ap₂ (λ (y z : Bool). pick {A = ℕ} y 22 (pick z 0 23)) u w

module _ (m : Memory) (k : ℕ) (fit : Fit m ≡ true) (inside : k < m.counts.nodes) (has : has_parent m.nodes k ≡ true) where
  cl : Clauses (text_in m) m.counts m.trees m.nodes m.properties m.values
  cl = fit-clauses m fit

  -- no root stands between a node and its parent
  same-side : (i : ℕ) → i < m.counts.trees → leb (root_at m.trees i) (parent_at m.nodes k) ≡ leb (root_at m.trees i) k
  same-side i l =
      let b = (has-before m.nodes k has).0 in
      let r = root_in m.trees m.nodes m.counts.trees m.counts.nodes cl.roots i l in
      below_or (parent_at m.nodes k) (root_at m.trees i)
      (λ u. below_or k (root_at m.trees i)
      (λ v. lt-leb (root_at m.trees i) (parent_at m.nodes k) u ∙ sym (lt-leb (root_at m.trees i) k v))
      (λ v.
      let o : on_path m.nodes k (parent_at m.nodes k) ≡ true = path-up m.nodes k (parent_at m.nodes k) (λ z. omega arith) has ∙ path-self m.nodes (parent_at m.nodes k) in
      true-false (on_path m.nodes (root_at m.trees i) (parent_at m.nodes k))
      (on-between (record { most = cl.held.below_none; rule = cl.parents }) (root_at m.trees i) k (parent_at m.nodes k) v inside (omega arith) o)
      (path-out m.nodes (root_at m.trees i) (parent_at m.nodes k) (λ z. omega arith) (has-none m.nodes (root_at m.trees i) r.1))))
      (λ u. le-leb (root_at m.trees i) (parent_at m.nodes k) u ∙ sym (le-leb (root_at m.trees i) k (omega arith)))

  go-alike : is_go_node m (parent_at m.nodes k) ≡ is_go_node m k
  go-alike =
      let b = (has-before m.nodes k has).0 in
      ap₂ (λ (x : Bool) (z : ℕ). x && eqb (game_at m.trees z) 0)
      (lt-ltb (parent_at m.nodes k) m.counts.nodes (omega arith) ∙ sym (lt-ltb k m.counts.nodes inside))
      (over-alike m.trees (parent_at m.nodes k) k m.counts.trees same-side)

  way-more : way_properties m k ≡ way_properties m (parent_at m.nodes k) ++ (node_properties (text_in m) m.nodes m.properties m.values k ∷ [])
  way-more =
      ap (map (node_properties (text_in m) m.nodes m.properties m.values)) (way-child m.nodes k has)
      ∙ map-append (node_properties (text_in m) m.nodes m.properties m.values) (way_to m.nodes (parent_at m.nodes k)) (k ∷ [])

  size_same : said_size (way_properties m (parent_at m.nodes k) ++ (node_properties (text_in m) m.nodes m.properties m.values k ∷ [])) ≡ said_size (way_properties m (parent_at m.nodes k))
  unfolding way_to
  size_same =
      said_more (node_properties (text_in m) m.nodes m.properties m.values) (way_to m.nodes (parent_at m.nodes k))
      (node_properties (text_in m) m.nodes m.properties m.values k ∷ []) (way-some m.nodes (parent_at m.nodes k) (parent_at m.nodes k))

  number-go : (j : ℕ) → is_go_node m j ≡ true → board_number m j ≡ way_number (way_properties m j)
  unfolding board_number
  number-go j e = rw (fit, e)

  number-no : (j : ℕ) → is_go_node m j ≡ false → board_number m j ≡ 21
  unfolding board_number
  number-no j e = rw (fit, e)

  -- a refused board stays refused
  stays-refused : (board_number m (parent_at m.nodes k) ≡ 0 → ⊥) → board_number m k ≡ board_number m (parent_at m.nodes k)
  stays-refused some =
      either-bool (is_go_node m (parent_at m.nodes k))
      (λ e.
      number-go k (sym go-alike ∙ e)
      ∙ (ap way_number way-more
      ∙ number-stays (way_properties m (parent_at m.nodes k)) (node_properties (text_in m) m.nodes m.properties m.values k)
      (board_number m (parent_at m.nodes k)) size_same (sym (number-go (parent_at m.nodes k) e)) some))
      (λ e. number-no k (sym go-alike ∙ e) ∙ sym (number-no (parent_at m.nodes k) e))

  -- the number of one node more upon a board
  next-number : (v : Bool) → board_number m (parent_at m.nodes k) ≡ 0
      → right_node (columns_by (said_size (way_properties m (parent_at m.nodes k)))) (rows_by (said_size (way_properties m (parent_at m.nodes k))))
      (node_properties (text_in m) m.nodes m.properties m.values k) ≡ v → board_number m k ≡ pick v 0 23
  next-number v z g =
      either-bool (is_go_node m (parent_at m.nodes k))
      (λ e.
      number-go k (sym go-alike ∙ e)
      ∙ (ap way_number way-more
      ∙ number_more (way_properties m (parent_at m.nodes k)) (node_properties (text_in m) m.nodes m.properties m.values k) v size_same
      (sym (number-go (parent_at m.nodes k) e) ∙ z) g))
      (λ e. let y = sym (number-no (parent_at m.nodes k) e) ∙ z in absurd (omega arith))

  module _ (b r : SgfBoard) (f : BoardIs m (parent_at m.nodes k) b) (g : NextBoardIs (node_properties (text_in m) m.nodes m.properties m.values k) b r) where
    upon-refused : (board_number m (parent_at m.nodes k) ≡ 0 → ⊥) → BoardIs m k r
    upon-refused some =
        let e = f.refused some in
        let n : b.number ≡ board_number m (parent_at m.nodes k) = ap (λ (z : SgfBoard). z.number) e in
        refused-by m k (board_number m (parent_at m.nodes k)) (stays-refused some) some
        (g.no-board (λ z. some (sym n ∙ z)) ∙ ap unreserved e)

    module _ (z : board_number m (parent_at m.nodes k) ≡ 0) where
      x : PlayedBoard (columns_by (said_size (way_properties m (parent_at m.nodes k)))) (rows_by (said_size (way_properties m (parent_at m.nodes k)))) (way_properties m (parent_at m.nodes k)) b
      x = f.played z

      right-here : right_node b.columns b.rows (node_properties (text_in m) m.nodes m.properties m.values k)
          ≡ right_node (columns_by (said_size (way_properties m (parent_at m.nodes k)))) (rows_by (said_size (way_properties m (parent_at m.nodes k))))
          (node_properties (text_in m) m.nodes m.properties m.values k)
      right-here = ap₂ (λ (v h : ℕ). right_node v h (node_properties (text_in m) m.nodes m.properties m.values k)) x.shows.columns x.shows.rows

      upon-wrong : right_node b.columns b.rows (node_properties (text_in m) m.nodes m.properties m.values k) ≡ false → BoardIs m k r
      upon-wrong e = refused-by m k 23 (next-number false z (sym right-here ∙ e)) (λ y. omega arith) (g.refused x.shows.number e)

      upon-right : right_node b.columns b.rows (node_properties (text_in m) m.nodes m.properties m.values k) ≡ true → BoardIs m k r
      upon-right e =
          let s = g.shows x.shows.number e in
          let a = subst₂ (λ (v h : ℕ). Steps v h (pos_in b) (acts_of v h (node_properties (text_in m) m.nodes m.properties m.values k)) (pos_in r)) x.shows.columns x.shows.rows
          (g.acts x.shows.number e) in
          let all : PlayedBoard (columns_by (said_size (way_properties m (parent_at m.nodes k)))) (rows_by (said_size (way_properties m (parent_at m.nodes k))))
          (way_properties m (parent_at m.nodes k) ++ (node_properties (text_in m) m.nodes m.properties m.values k ∷ [])) r =
          record {
            shows = record { number = s.number; columns = s.columns ∙ x.shows.columns; rows = s.rows ∙ x.shows.rows; reserved = s.reserved };
            acts = subst (λ (q : List Act). Steps (columns_by (said_size (way_properties m (parent_at m.nodes k)))) (rows_by (said_size (way_properties m (parent_at m.nodes k)))) empty_pos q (pos_in r))
                (sym (acts-one (columns_by (said_size (way_properties m (parent_at m.nodes k)))) (rows_by (said_size (way_properties m (parent_at m.nodes k)))) (way_properties m (parent_at m.nodes k))
                (node_properties (text_in m) m.nodes m.properties m.values k))) (steps_then x.acts a);
          } in
          let sized : SizedBoard (way_properties m (parent_at m.nodes k) ++ (node_properties (text_in m) m.nodes m.properties m.values k ∷ [])) r =
          subst (λ (q : RootSize). PlayedBoard (columns_by q) (rows_by q) (way_properties m (parent_at m.nodes k) ++ (node_properties (text_in m) m.nodes m.properties m.values k ∷ [])) r) (sym size_same) all in
          record {
            refused = λ y. absurd (y (next-number true z (sym right-here ∙ e)));
            played = λ y. subst (λ (q : List (List Property)). SizedBoard q r) (sym way-more) sized;
          }

    -- number and sums included
    pub board-more : BoardIs m k r
    board-more =
        same_or (board_number m (parent_at m.nodes k)) 0
        (λ z. either-bool (right_node b.columns b.rows (node_properties (text_in m) m.nodes m.properties m.values k)) (upon-right z) (upon-wrong z)) upon-refused
