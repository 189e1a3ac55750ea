-- A stone set and a stone played.
use Rattle.std.specs.Prelude.{set, ◌-◌, ◌<◌, ◌≤◌, ◌&&◌, ◌||◌, ◌≡◌}
use Rattle.lists.specs.Prelude.{ℕ, Bool, true, false, List, eqb, ltb}
use Rattle.board_groups.specs.Board.{at, on_board}
use Rattle.board_groups.specs.Groups.{Takes, TakesBeside, TakesGroup}

-- c stands at the place p now, where `stood` stood; past the places nothing changes
pub record SetIs (c p : ℕ) (b b' : List ℕ) (stood : ℕ) : Type 0 where
  pub within : p < 2704 → (stood ≡ at b p) × (b' ≡ set b p c)
  pub beyond : 2704 ≤ p → (stood ≡ 0) × (b' ≡ b)

-- the other one of black and white
abbrev pub other_of : ℕ → ℕ
other_of c = 3 - c

-- black or white
pub record Player (c : ℕ) : Type 0 where
  pub most : c < 3
  pub least : 0 < c

-- what can be set: empty, black or white, at a point of the board
unfoldable pub settable : (w h c p : ℕ) → Bool
settable w h c p = ltb c 3 && on_board w h p

-- a stone that can be played: it is black or white, and p is a point of the board
unfoldable pub playable : (w h c p : ℕ) → Bool
playable w h c p = (eqb c 1 || eqb c 2) && on_board w h p

-- c stands at p, whatever stood there; then the n stones of the other colour go whose groups have no liberty, then the k stones of colour c
pub record Plays (w h c p : ℕ) (b b' : List ℕ) (n k : ℕ) : Type 0 where
  pub between : List ℕ
  pub first : Takes w h (other_of c) (set b p c) between n
  pub second : Takes w h c between b' k

-- the same, with the groups beside p and the group of p alone
pub record PlaysNear (w h c p : ℕ) (b b' : List ℕ) (n k : ℕ) : Type 0 where
  pub between : List ℕ
  pub first : TakesBeside w h (other_of c) p (set b p c) between n
  pub second : TakesGroup w h c p between b' k

-- a stone that cannot be played changes nothing; else P holds, and `stood` stood at p
pub record PlayIs (P : Type 0) (w h c p : ℕ) (b b' : List ℕ) (stood n k : ℕ) : Type 0 where
  pub not-played : playable w h c p ≡ false → (b' ≡ b) × (stood ≡ 0) × (n ≡ 0) × (k ≡ 0)
  pub played : playable w h c p ≡ true → (stood ≡ at b p) × P
