-- Groups, liberties, and stones taken off.
use Rattle.std.specs.Prelude.{◌⊎◌, ◌+◌, ◌≡◌}
use Rattle.lists.specs.Prelude.{ℕ, true, List, length}
use Rattle.board_groups.specs.Board.{at, on_board, beside, standing}

-- c stands at p, a point of the board
pub record Stone (w h : ℕ) (b : List ℕ) (c p : ℕ) : Type 0 where
  pub on : on_board w h p ≡ true
  pub is : at b p ≡ c

-- p and q are stones of one group: from one to the other over stones of colour c, each beside the one before
pub data Joined (w h : ℕ) (b : List ℕ) (c : ℕ) : ℕ → ℕ → Type 0 where
  self : {p : ℕ} → Stone w h b c p → Joined w h b c p p
  more : {p q r : ℕ} → Joined w h b c p q → beside q r ≡ true → Stone w h b c r → Joined w h b c p r

-- the group of p has a liberty: an empty point beside one of its stones
pub record Liberty (w h : ℕ) (b : List ℕ) (c p : ℕ) : Type 0 where
  pub stone : ℕ
  pub point : ℕ
  pub joined : Joined w h b c p stone
  pub near : beside stone point ≡ true
  pub empty : Stone w h b 0 point

-- a stone whose group has none
pub record Dead (w h : ℕ) (b : List ℕ) (c p : ℕ) : Type 0 where
  pub stone : Stone w h b c p
  pub none : Liberty w h b c p → ⊥

-- the place held a stone of colour c whose group had no liberty, and is empty now; or it is as it was, and a stone of colour c there had a liberty
abbrev pub TakesAt : (w h c : ℕ) (b b' : List ℕ) (p : ℕ) → Type 0
TakesAt w h c b b' p = (Dead w h b c p × (at b' p ≡ 0)) ⊎ ((Stone w h b c p → Liberty w h b c p) × (at b' p ≡ at b p))

-- b' is b without the n stones of colour c whose groups have no liberty
pub record Takes (w h c : ℕ) (b b' : List ℕ) (n : ℕ) : Type 0 where
  pub as_long : length b' ≡ length b
  pub each : (p : ℕ) → TakesAt w h c b b' p
  pub many : standing c b ≡ n + standing c b'

-- the place held a stone of colour c of which Q holds and whose group had no liberty, and is empty now; or it is as it was, and has a liberty if Q holds
abbrev pub TakesOfAt : (Q : ℕ → Type 0) (w h c : ℕ) (b b' : List ℕ) (p : ℕ) → Type 0
TakesOfAt Q w h c b b' p = ((Dead w h b c p × Q p) × (at b' p ≡ 0)) ⊎ ((Q p → Liberty w h b c p) × (at b' p ≡ at b p))

-- b' is b without the n stones of colour c of which Q holds and whose groups have no liberty
pub record TakesOf (Q : ℕ → Type 0) (w h c : ℕ) (b b' : List ℕ) (n : ℕ) : Type 0 where
  pub as_long : length b' ≡ length b
  pub each : (p : ℕ) → TakesOfAt Q w h c b b' p
  pub many : standing c b ≡ n + standing c b'

-- b' is b without the n stones of the group of p, where that has no liberty; else n is 0 and b' is b
abbrev pub TakesGroup : (w h c p : ℕ) (b b' : List ℕ) (n : ℕ) → Type 0
TakesGroup w h c p b b' n = TakesOf (Joined w h b c p) w h c b b' n

-- a stone of the group of q is beside p, a point of the board
pub record Touches (w h : ℕ) (b : List ℕ) (c p q : ℕ) : Type 0 where
  pub on : on_board w h p ≡ true
  pub last : ℕ
  pub joined : Joined w h b c q last
  pub near : beside last p ≡ true

-- b' is b without the n stones of groups beside p that have no liberty
abbrev pub TakesBeside : (w h c p : ℕ) (b b' : List ℕ) (n : ℕ) → Type 0
TakesBeside w h c p b b' n = TakesOf (Touches w h b c p) w h c b b' n

-- every stone of colour c has a liberty
abbrev pub Settled : (w h : ℕ) (b : List ℕ) (c : ℕ) → Type 0
Settled w h b c = (p : ℕ) → Stone w h b c p → Liberty w h b c p
