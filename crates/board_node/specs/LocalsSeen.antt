-- What the steps to a move seen at once promise, for the contracts of private functions.
use Rattle.std.specs.Prelude.{◌+◌, ◌*◌, ◌<◌, ◌≡◌, ◌∷◌}
use Rattle.lists.specs.Prelude.{ℕ, true, List, [], length, get_or}
use Rattle.go_points.specs.Area.{letter_of}
use Rattle.parts_props.specs.Props.{Property}
use Rattle.board_play.specs.Play.{playable}
use Rattle.board_play.specs.Steps.{plays}
use Rattle.board_node.specs.Node.{setup_colour, move_colour, setups_of, moves_of}
use Rattle.board_node.specs.declared.MoveSeen.{MoveSeen}

-- a property of that name neither sets nor moves
pub record Idle (id : List ℕ) : Type 0 where
  pub sets-none : 2 < setup_colour id
  pub moves-none : move_colour id < 1

-- where r has a colour, it is c at (x, y), a point of the board
pub record PointSeen (w h c x y : ℕ) (r : MoveSeen) : Type 0 where
  pub whose : (r.colour ≡ 0 → ⊥) → r.colour ≡ c
  pub where_to : (r.colour ≡ 0 → ⊥) → r.place ≡ 52 * x + y
  pub column : (r.colour ≡ 0 → ⊥) → (x < 52) × (x < w)
  pub row : (r.colour ≡ 0 → ⊥) → (y < 52) × (y < h)

-- where r has a colour, the raw value v reads as the move of colour c to a point of the board, which is r
pub record ValueSeen (w h c : ℕ) (v : List ℕ) (r : MoveSeen) : Type 0 where
  pub two : (r.colour ≡ 0 → ⊥) → length v ≡ 2
  pub point : PointSeen w h c (letter_of (get_or v 0 0)) (letter_of (get_or v 1 0)) r

-- where r has a colour, the property sets nothing and plays its move, which can be played
pub record RowSeen (w h : ℕ) (p : Property) (r : MoveSeen) : Type 0 where
  pub sets-none : (r.colour ≡ 0 → ⊥) → [] ≡ setups_of p
  pub moves : (r.colour ≡ 0 → ⊥) → moves_of w h p ≡ plays r.colour r.place ∷ []
  pub can : (r.colour ≡ 0 → ⊥) → playable w h r.colour r.place ≡ true
