-- A node whose move is seen at once.
use Rattle.std.specs.Prelude.{◌≡◌, ◌∷◌}
use Rattle.lists.specs.Prelude.{ℕ, true, List, []}
use Rattle.parts_props.specs.Props.{Property}
use Rattle.board_play.specs.Play.{playable}
use Rattle.board_play.specs.Steps.{plays}
use Rattle.board_node.specs.Node.{acts_of}
use Rattle.board_node.specs.declared.MoveSeen.{MoveSeen}

-- where r has a colour, the acts of these properties are its move, and that can be played; where it has none, nothing is said
pub record MoveSeenIs (w h : ℕ) (ps : List Property) (r : MoveSeen) : Type 0 where
  pub acts : (r.colour ≡ 0 → ⊥) → acts_of w h ps ≡ plays r.colour r.place ∷ []
  pub can : (r.colour ≡ 0 → ⊥) → playable w h r.colour r.place ≡ true
