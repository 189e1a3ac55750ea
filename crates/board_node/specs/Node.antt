-- The acts of a node, by its properties: setup first, then moves, each in property order; and which of them are refused.
use Rattle.std.specs.Prelude.{◌+◌, ◌*◌, ◌&&◌, ◌||◌, ◌∷◌, ◌++◌}
use Rattle.lists.specs.Prelude.{ℕ, suc, Bool, true, false, not, List, [], eqb, leb, ltb, pick}
use Rattle.lists.specs.Same.{same}
use Rattle.go_points.specs.declared.Value.{Value}
use Rattle.go_points.specs.declared.Value.TheVariants.{Other, Invalid, Pass, Move, Handicap, Points}
use Rattle.go.specs.Value.{go_value}
use Rattle.parts_props.specs.Props.{Property}
use Rattle.board_groups.specs.Board.{on_board}
use Rattle.board_play.specs.Steps.{Act, sets, plays}

-- what a setup property sets: AB black, AW white, AE empty; 3 for any other property
unfoldable pub setup_colour : List ℕ → ℕ
setup_colour id = pick (same id (0x41 ∷ 0x42 ∷ [])) 1 (pick (same id (0x41 ∷ 0x57 ∷ [])) 2 (pick (same id (0x41 ∷ 0x45 ∷ [])) 0 3))

-- whose move a property is: B black, W white; 0 for any other property
unfoldable pub move_colour : List ℕ → ℕ
move_colour id = pick (same id (0x42 ∷ [])) 1 (pick (same id (0x57 ∷ [])) 2 0)

-- c set at each marked place from i on, ascending
unfoldable pub sets_from : (c i : ℕ) → List Bool → List Act
sets_from c i [] = []
sets_from c i (m ∷ ms) = pick m (sets c i ∷ sets_from c (suc i) ms) (sets_from c (suc i) ms)

-- `tt` is a pass where no side is above 19
abbrev pub tt_pass : (w h x y : ℕ) → Bool
tt_pass w h x y = (leb w 19 && leb h 19) && (eqb x 19 && eqb y 19)

-- a point is played; a pass and an invalid value are nothing
unfoldable pub move_acts : (w h c : ℕ) → Value → List Act
move_acts w h c Other = []
move_acts w h c Invalid = []
move_acts w h c Pass = []
move_acts w h c (Move x y) = pick (tt_pass w h x y) [] (plays c (52 * x + y) ∷ [])
move_acts w h c (Handicap n) = []
move_acts w h c Points = []

-- what a property sets: its points, where it is a setup property; an invalid one has none
unfoldable pub setups_of : Property → List Act
setups_of p = pick (ltb (setup_colour p.name) 3) (sets_from (setup_colour p.name) 0 (go_value 0 p.name p.raws).marks) []

-- what a property plays, on a board of w columns and h rows: its Go value under the rule that leaves `tt` a point, since `tt_pass` goes by the board
unfoldable pub moves_of : (w h : ℕ) → Property → List Act
moves_of w h p = pick (ltb 0 (move_colour p.name)) (move_acts w h (move_colour p.name) (go_value 2 p.name p.raws).value) []

-- all setup, in property order
abbrev pub all_setups : List Property → List Act
all_setups [] = []
all_setups (p ∷ ps) = setups_of p ++ all_setups ps

-- all moves, in property order
abbrev pub all_moves : (w h : ℕ) → List Property → List Act
all_moves w h [] = []
all_moves w h (p ∷ ps) = moves_of w h p ++ all_moves w h ps

-- setup, then moves
abbrev pub acts_of : (w h : ℕ) → List Property → List Act
acts_of w h ps = all_setups ps ++ all_moves w h ps

-- q is one of the places
abbrev pub among : ℕ → List ℕ → Bool
among q [] = false
among q (p ∷ ps) = eqb q p || among q ps

-- each act is at a point of the board, and nothing is set at a place that this node's setup has set before
abbrev pub right_acts : (w h : ℕ) (before : List ℕ) → List Act → Bool
right_acts w h before [] = true
right_acts w h before (sets c p ∷ rest) = (on_board w h p && not (among p before)) && right_acts w h (p ∷ before) rest
right_acts w h before (plays c p ∷ rest) = on_board w h p && right_acts w h before rest

-- the node is not refused
unfoldable pub right_node : (w h : ℕ) → List Property → Bool
right_node w h ps = right_acts w h [] (acts_of w h ps)
