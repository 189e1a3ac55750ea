-- What a node upon a position answers.
use Rattle.std.specs.Prelude.{◌≡◌}
use Rattle.lists.specs.Prelude.{ℕ, Bool, true, false, List, replicate}
use Rattle.parts_props.specs.Props.{Property}
use Rattle.board_acts.specs.Acts.{pos_of, StepsBy}
use Rattle.board_acts.specs.declared.BoardState.{BoardState}
use Rattle.board_node.specs.Node.{acts_of, right_node}
use Rattle.board_node.specs.declared.Position.{Position}
use Rattle.board_node.specs.declared.NodeAnswer.{NodeAnswer}

-- nothing put on or taken off, on a board of which nothing is known
abbrev pub no_state : BoardState
no_state = record { black = record { on = 0; off = 0 }; white = record { on = 0; off = 0 }; settled = false }

-- stones and sums
abbrev pub position_of : List ℕ → BoardState → Position
position_of b s = record { stones = b; state = s }

-- whether a node is refused, and what stands then
abbrev pub answer_of : Bool → List ℕ → BoardState → NodeAnswer
answer_of v b s = record { refused = v; position = position_of b s }

-- nothing stands
abbrev pub empty_position : Position
empty_position = record { stones = replicate 2704 0; state = no_state }

-- a refusal
abbrev pub refused_node : NodeAnswer
refused_node = record { refused = true; position = empty_position }

-- a node that is not right is refused; else its acts lead from the position to the one given
pub record NodeIs (w h : ℕ) (ps : List Property) (x : Position) (r : NodeAnswer) : Type 0 where
  pub wrong : right_node w h ps ≡ false → r ≡ refused_node
  pub right : right_node w h ps ≡ true → r.refused ≡ false
  pub acts : right_node w h ps ≡ true → StepsBy w h x.state.settled (pos_of x.stones x.state) (acts_of w h ps) r.position.state.settled
      (pos_of r.position.stones r.position.state)
