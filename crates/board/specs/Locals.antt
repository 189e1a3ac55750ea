-- What the steps of a board promise each other.
use Rattle.std.specs.Prelude.{◌/◌, ◌<◌, ◌≤◌, ◌≡◌}
use Rattle.lists.specs.Prelude.{ℕ, true, false, List, map, length}
use Rattle.tables.specs.Numbers.{none}
use Rattle.tables.specs.Columns.{node_stride, parent_at}
use Rattle.tables.specs.Each.{each}
use Rattle.fit_nodes.specs.Locals.{Ruled}
use Rattle.fit_nodes.specs.Nodes.{on_path, child_right, sibling_right}
use Rattle.parts_props.specs.Props.{Property}
use Rattle.board_play.specs.Steps.{Steps, empty_pos}
use Rattle.board_acts.specs.Acts.{pos_of, KnownSettled}
use Rattle.board_acts.specs.declared.BoardState.{BoardState}
use Rattle.board_path.specs.Way.{way_to}
use Rattle.board.specs.Answer.{way_right, way_acts, refused_board, PlayedBoard}
use Rattle.board.specs.declared.SgfBoard.{SgfBoard}

-- nothing put on or taken off, on a board where every stone has a liberty
abbrev pub start_state : BoardState
start_state = record { black = record { on = 0; off = 0 }; white = record { on = 0; off = 0 }; settled = true }

-- no board has more than 52 columns or rows
pub record SidesRight (w h : ℕ) : Type 0 where
  pub columns : w < 53
  pub rows : h < 53

-- the links of n nodes are right, and the root is on the path of k
pub record WayWalk (nd : List ℕ) (root k n : ℕ) : Type 0 where
  pub ruled : Ruled nd n
  pub rows : n ≤ length nd / node_stride
  pub children : each n (child_right nd n) ≡ true
  pub siblings : each n (sibling_right nd n) ≡ true
  pub inside : k < n
  pub on : on_path nd k root ≡ true
  pub orphan : parent_at nd root ≡ none

-- over the nodes of a way: refused, or their acts upon an empty board
pub record WayAnswer (w h : ℕ) (ws : List (List Property)) (r : SgfBoard) : Type 0 where
  pub off : way_right w h ws ≡ false → r ≡ refused_board 23
  pub played : way_right w h ws ≡ true → PlayedBoard w h ws r

-- the nodes of the way to `at` are played, and `at` is on the way to k
pub record WayPlayed (w h : ℕ) (nd : List ℕ) (P : ℕ → List Property) (k at : ℕ) (b : List ℕ) (s : BoardState) : Type 0 where
  pub on : on_path nd k at ≡ true
  pub right : way_right w h (map P (way_to nd at)) ≡ true
  pub steps : Steps w h empty_pos (way_acts w h (map P (way_to nd at))) (pos_of b s)
  pub long : length b ≡ 2704
  pub known : KnownSettled w h s.settled b
