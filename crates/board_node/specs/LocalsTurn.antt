-- What a step of a node promises, for the contracts of private functions.
use Rattle.std.specs.Prelude.{set, ◌-◌, ◌≤◌, ◌&&◌, ◌≡◌, ◌∷◌, ◌++◌}
use Rattle.lists.specs.Prelude.{ℕ, Bool, true, false, not, List, [], get_or, replicate}
use Rattle.tables.specs.Each.{tabulate}
use Rattle.parts_props.specs.Props.{Property}
use Rattle.board_groups.specs.Board.{on_board}
use Rattle.board_play.specs.Steps.{Pos, Act, sets, plays}
use Rattle.board_acts.specs.Acts.{pos_of, StepsBy}
use Rattle.board_acts.specs.declared.BoardState.{BoardState}
use Rattle.board_node.specs.Node.{all_setups}

-- as `right_acts`, with marks at the places that were set before
abbrev pub right_by : (w h : ℕ) → List Bool → List Act → Bool
right_by w h m [] = true
right_by w h m (sets c p ∷ rest) = (on_board w h p && not (get_or m p false)) && right_by w h (set m p true) rest
right_by w h m (plays c p ∷ rest) = on_board w h p && right_by w h m rest

-- what is left answers as the whole did
pub record Leads (w h : ℕ) (m : List Bool) (t : Bool) (s : Pos) (all : List Act) (m' : List Bool) (t' : Bool) (s' : Pos) (left : List Act) : Type 0 where
  pub ok : right_by w h m all ≡ right_by w h m' left
  pub goes : (u : Bool) (r : Pos) → StepsBy w h t' s' left u r → StepsBy w h t s all u r

-- the same with anything behind
pub record LeadsOn (w h : ℕ) (all left : List Act) (m : List Bool) (b : List ℕ) (s : BoardState) (m' : List Bool) (b' : List ℕ) (s' : BoardState) : Type 0 where
  pub on : (tail : List Act) → Leads w h m s.settled (pos_of b s) (all ++ tail) m' s'.settled (pos_of b' s') (left ++ tail)

-- these acts are done, or one of them is refused
pub record TurnIs (w h : ℕ) (mine : List Act) (m : List Bool) (b : List ℕ) (s : BoardState) (m' : List Bool) (b' : List ℕ) (s' : BoardState)
    (off : Bool) : Type 0 where
  pub stops : off ≡ true → (tail : List Act) → right_by w h m (mine ++ tail) ≡ false
  pub leads : off ≡ false → LeadsOn w h mine [] m b s m' b' s'

-- the same of moves, which set no mark
abbrev pub MovesIs : (w h : ℕ) (mine : List Act) (b : List ℕ) (s : BoardState) (b' : List ℕ) (s' : BoardState) (refused : Bool) → Type 0
MovesIs w h mine b s b' s' refused = (m : List Bool) → TurnIs w h mine m b s m b' s' refused

-- the properties from row r on up to row `to` set what those from row `first` on set
pub record SetupsFrom (f : ℕ → Property) (first to r : ℕ) : Type 0 where
  pub behind : first ≤ r
  pub same : all_setups (tabulate f first (to - first)) ≡ all_setups (tabulate f r (to - r))

-- these acts are done upon a board where none was done before, or one of them is refused; with the marks that they leave
pub record SetupIs (w h : ℕ) (mine : List Act) (b : List ℕ) (s : BoardState) (b' : List ℕ) (s' : BoardState) (off : Bool) : Type 0 where
  pub marks : List Bool
  pub turn : TurnIs w h mine (replicate 2704 false) b s marks b' s' off
