-- The answer over the whole way, case by case. Assumes nothing.
use Rattle.lists.proofs.Prelude.{ℕ, ◌/◌, ◌≤◌, ◌<◌, Bool, true, false, ◌≡◌, sym, ap, ap₂, ◌∙◌, subst, List, ◌++◌, map, length, eqb, pick, arith, eq-eqb, ne_eqb, lt-ltb, le-ltb}
use Rattle.tables.proofs.Cases.{either-bool}
use Rattle.tables.specs.Columns.{tree_stride, node_stride, root_at, game_at, parent_at, first_prop_at, prop_count_at}
use Rattle.tables.specs.Memory.{Memory}
use Rattle.fit_nodes.specs.Locals.{Ruled}
use Rattle.fit_nodes.specs.Nodes.{on_path}
use Rattle.fit_nodes.proofs.Path.{has-none}
use Rattle.fit.specs.Fit.{Fit}
use Rattle.fit.specs.Record.{text_in}
use Rattle.fit.proofs.Clauses.{Clauses, fit-clauses}
use Rattle.parts_props.specs.Props.{properties_at}
use Rattle.go_size.specs.Root.{size_in}
use Rattle.go_size.specs.declared.RootSize.{RootSize}
use Rattle.board_path.proofs.Ways.{way-root, way-split}
use Rattle.board.specs.Answer.{node_properties, way_properties, tree_over, is_go_node, said_size, is_wrong, columns_by, rows_by, way_right, way_number, board_number, refused_board, PlayedBoard, BoardIs}
use Rattle.board.specs.Locals.{SidesRight, WayWalk, WayAnswer}
use Rattle.board.specs.declared.SgfBoard.{SgfBoard}
use Rattle.board.proofs.Sizes.{size_small}
use Rattle.board.proofs.Trees.{Rooted, tree-rooted}

module _ (m : Memory) (k : ℕ) where
  pub refused-by : {r : SgfBoard} (n : ℕ) → board_number m k ≡ n → (n ≡ 0 → ⊥) → r ≡ refused_board n → BoardIs m k r
  refused-by {r} n e some f =
      record { refused = λ z. subst (λ (v : ℕ). r ≡ refused_board v) (sym e) f; played = λ z. absurd (some (sym e ∙ z)) }

  pub board-unfit : {r : SgfBoard} → Fit m ≡ false → r ≡ refused_board 19 → BoardIs m k r
  unfolding board_number
  board-unfit h f = refused-by 19 (rw h) (λ z. omega arith) f

  module _ (h : Fit m ≡ true) where
    number-no : is_go_node m k ≡ false → board_number m k ≡ 21
    unfolding board_number
    number-no e = rw (h, e)

    number-go : is_go_node m k ≡ true → board_number m k ≡ way_number (way_properties m k)
    unfolding board_number
    number-go e = rw (h, e)

    pub board-no : {r : SgfBoard} → m.counts.nodes ≤ k → r ≡ refused_board 21 → BoardIs m k r
    board-no l f = refused-by 21 (number-no (rw (le-ltb k m.counts.nodes l))) (λ z. omega arith) f

    module _ (l : k < m.counts.nodes) where
      f : Clauses (text_in m) m.counts m.trees m.nodes m.properties m.values
      f = fit-clauses m h

      ruled : Ruled m.nodes m.counts.nodes
      ruled = record { most = f.held.below_none; rule = f.parents }

      rooted : Rooted m.trees m.nodes k m.counts.trees m.counts.nodes (tree_over m.trees k m.counts.trees)
      rooted = tree-rooted m.trees m.nodes m.counts.trees m.counts.nodes ruled f.roots k l

      pub trees-lent : m.counts.trees ≤ length m.trees / tree_stride
      trees-lent = f.held.trees

      module _ (t : ℕ) (te : t ≡ tree_over m.trees k m.counts.trees) where
        pub tree-row : t < length m.trees / tree_stride
        tree-row = let w = rooted.within in let b = f.held.trees in omega arith

        pub other-game : {r : SgfBoard} → (game_at m.trees t ≡ 0 → ⊥) → r ≡ refused_board 21 → BoardIs m k r
        other-game g e =
            refused-by 21 (number-no (rw (lt-ltb k m.counts.nodes l) (ap (λ (z : ℕ). eqb (game_at m.trees z) 0) (sym te) ∙ ne_eqb (game_at m.trees t) 0 g)))
            (λ z. omega arith) e

        module _ (root : ℕ) (re : root ≡ root_at m.trees t) where
          root_is : root ≡ root_at m.trees (tree_over m.trees k m.counts.trees)
          root_is = re ∙ ap (root_at m.trees) te

          pub root-row : root < length m.nodes / node_stride
          root-row = let i = rooted.inside in let b = f.held.nodes in let e = root_is in omega arith

          pub walk-to : WayWalk m.nodes root k m.counts.nodes
          walk-to =
              record {
                ruled = ruled;
                rows = f.held.nodes;
                children = f.children;
                siblings = f.siblings;
                inside = l;
                on = subst (λ (z : ℕ). on_path m.nodes k z ≡ true) (sym root_is) rooted.on;
                orphan = ap (parent_at m.nodes) root_is ∙ rooted.orphan;
              }

          module _ (game : game_at m.trees t ≡ 0) {first count : ℕ} (fe : first ≡ first_prop_at m.nodes root) (ce : count ≡ prop_count_at m.nodes root)
              {s : RootSize} (se : s ≡ size_in (properties_at (text_in m) m.properties m.values first count)) where
            is-go : is_go_node m k ≡ true
            is-go = rw (lt-ltb k m.counts.nodes l) (ap (λ (z : ℕ). eqb (game_at m.trees z) 0) (sym te) ∙ eq-eqb (game_at m.trees t) 0 game)

            said : said_size (way_properties m k) ≡ s
            unfolding node_properties
            said =
                let w = walk-to in
                let b = way-split m.nodes k k root (omega arith) w.on in
                ap (λ (z : List ℕ). said_size (map (node_properties (text_in m) m.nodes m.properties m.values) z))
                (b.is ∙ ap (λ (z : List ℕ). z ++ b.rest) (way-root m.nodes root (has-none m.nodes root w.orphan)))
                ∙ sym (se ∙ ap₂ (λ (x y : ℕ). size_in (properties_at (text_in m) m.properties m.values x y)) fe ce)

            pub sides-right : SidesRight (columns_by s) (rows_by s)
            sides-right = subst (λ (z : RootSize). SidesRight (columns_by z) (rows_by z)) (sym se) (size_small (properties_at (text_in m) m.properties m.values first count))

            pub size-wrong : {r : SgfBoard} → is_wrong s ≡ true → r ≡ refused_board 22 → BoardIs m k r
            unfolding way_number
            size-wrong e g = refused-by 22 (number-go is-go ∙ rw (ap is_wrong said ∙ e)) (λ z. omega arith) g

            way-number : (v : Bool) → is_wrong s ≡ false → way_right (columns_by s) (rows_by s) (way_properties m k) ≡ v → board_number m k ≡ pick v 0 23
            unfolding way_number
            way-number v e x =
                number-go is-go
                ∙ (ap (λ (z : Bool). pick z 22 (pick (way_right (columns_by (said_size (way_properties m k))) (rows_by (said_size (way_properties m k))) (way_properties m k)) 0 23)) (ap is_wrong said ∙ e)
                ∙ (ap (λ (z : RootSize). pick (way_right (columns_by z) (rows_by z) (way_properties m k)) 0 23) said ∙ ap (λ (z : Bool). pick {A = ℕ} z 0 23) x))

            pub size-played : {r : SgfBoard} → is_wrong s ≡ false → WayAnswer (columns_by s) (rows_by s) (way_properties m k) r → BoardIs m k r
            size-played {r} e a =
                either-bool (way_right (columns_by s) (rows_by s) (way_properties m k))
                (λ x. record {
                  refused = λ z. absurd (z (way-number true e x));
                  played = λ z. subst (λ (q : RootSize). PlayedBoard (columns_by q) (rows_by q) (way_properties m k) r) (sym said) (a.played x);
                })
                (λ x. refused-by 23 (way-number false e x) (λ z. omega arith) (a.off x))
