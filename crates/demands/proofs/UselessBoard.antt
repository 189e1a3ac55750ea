-- Useless boards, held against the contract of sgf_board on one move: none meets it. Assumes nothing.
use Rattle.lists.proofs.Prelude.{ℕ, ◌<◌, true, List, [], ◌∷◌, inl, inr, ◌≡◌, refl, ◌∙◌, arith, replicate, set}
use Rattle.text_chars.specs.White.{white}
use Rattle.text_utf8.specs.Trim.{trimmed}
use Rattle.lexer_scan.specs.Scan.{space}
use Rattle.values.specs.Read.{read_from, read_identifier}
use Rattle.parts.specs.Rows.{value_at, values_at}
use Rattle.parts_props.specs.Props.{identifier_at, properties_at}
use Rattle.go_points.specs.Area.{letter_of, move_to, move_of}
use Rattle.go_shape.specs.Shape.{shape_of}
use Rattle.go.specs.Value.{move_under, value_by, go_value}
use Rattle.go_size.specs.Root.{size_in}
use Rattle.tables.specs.Each.{each, sum, tabulate}
use Rattle.fit.specs.Fit.{fit_text, Fit}
use Rattle.fit_nodes.specs.Nodes.{orphans, upward, on_path, first_under, nodes_fit}
use Rattle.fit_spans.specs.Ranges.{ranges_fit}
use Rattle.fit_spans.specs.Spans.{spans, ascending, plain_name, spans_fit}
use Rattle.board_groups.specs.Board.{at, on_board, beside}
use Rattle.board_groups.specs.Groups.{self, TakesAt}
use Rattle.board_play.specs.Steps.{Pos, plays, play-step, played, Steps, done, next, empty_pos}
use Rattle.board_node.specs.Node.{setup_colour, move_colour, sets_from, move_acts, setups_of, moves_of, right_node}
use Rattle.board_path.specs.Way.{way_up, way_to}
use Rattle.board.specs.Answer.{node_properties, tree_over, way_properties, way_number, board_number, pos_in, SizedBoard, BoardIs}
use Rattle.board.specs.declared.SgfBoard.{SgfBoard}
use Rattle.demands.proofs.UselessRequests.{game}

game-number : board_number game 0 ≡ 0
unfolding white space read_from read_identifier value_at values_at identifier_at properties_at letter_of move_to move_of shape_of move_under value_by go_value size_in each sum tabulate Fit fit_text nodes_fit ranges_fit spans_fit trimmed orphans upward on_path first_under spans ascending plain_name on_board setup_colour move_colour sets_from move_acts setups_of moves_of right_node way_up way_to node_properties tree_over way_number board_number
game-number = refl

game-acts : (r : SgfBoard) → SizedBoard (way_properties game 0) r → Steps 19 19 empty_pos (plays 1 0 ∷ []) (pos_in r)
unfolding white space read_from read_identifier value_at values_at identifier_at properties_at letter_of move_to move_of shape_of move_under value_by go_value size_in each sum tabulate setup_colour move_colour sets_from move_acts setups_of moves_of way_up way_to node_properties
game-acts r x = x.acts

-- the empty board with one black stone
abbrev placed : List ℕ
placed = set (replicate 2704 0) 0 1

-- a stone played on an empty board stands there
stands : (w h : ℕ) (q : Pos) → on_board w h 0 ≡ true → on_board w h 1 ≡ true → Steps w h empty_pos (plays 1 0 ∷ []) q → at q.stones 0 ≡ 1
unfolding beside
stands w h q o p (next (play-step {between = b} {b' = b'} {n = n} {k = k} ok one two) rest) = ends q rest
  where
    first : TakesAt w h 2 placed b 0 → at b 0 ≡ 1
    first (inl x) = absurd (omega (arith, x.0.stone.is))
    first (inr x) = x.1

    second : TakesAt w h 2 placed b 1 → at b 1 ≡ 0
    second (inl x) = x.1
    second (inr x) = x.1

    go : TakesAt w h 1 b b' 0 → at b' 0 ≡ 1
    go (inl x) =
        let here = self (record { on = o; is = first (one.each 0) }) in
        absurd (x.0.none (record { stone = 0; point = 1; joined = here; near = refl; empty = record { on = p; is = second (one.each 1) } }))
    go (inr x) = x.1 ∙ first (one.each 0)

    ends : (q : Pos) → Steps w h (played 1 0 b' n k empty_pos) [] q → at q.stones 0 ≡ 1
    ends q done = go (two.each 0)

module _ (r : SgfBoard) (s : BoardIs game 0 r) where
  -- one that refuses everything
  pub refusing-board : 0 < r.number → ⊥
  refusing-board l = omega (arith, l, (s.played game-number).shows.number)

  -- one that leaves the board empty
  pub idle-board : at r.stones 0 ≡ 1
  unfolding on_board
  idle-board = stands 19 19 (pos_in r) refl refl (game-acts r (s.played game-number))
