-- A position: stones, and for each colour how many were put on and taken off; acts one after another.
use Rattle.std.specs.Prelude.{set, ◌+◌, ◌<◌, ◌≡◌, ◌∷◌}
use Rattle.lists.specs.Prelude.{ℕ, suc, min, true, List, [], length, replicate, eqb, pick}
use Rattle.board_groups.specs.Board.{at, standing}
use Rattle.board_groups.specs.Groups.{Takes}
use Rattle.board_play.specs.Play.{other_of, settable, playable}

-- of one colour: how many stones were put on and taken off
pub record Sum : Type 0 where
  pub on : ℕ
  pub off : ℕ

-- where sums stop: the greatest number of 64 bits
abbrev pub sum_most : ℕ
sum_most = 18446744073709551615

-- a sum with n more
abbrev pub sum_up_to : ℕ → ℕ → ℕ
sum_up_to s n = min (s + n) sum_most

-- what stands, and the sums of black and of white
pub record Pos : Type 0 where
  pub stones : List ℕ
  pub black : Sum
  pub white : Sum

-- a point set to c (0 for empty), or a stone of colour c played
pub data Act : Type 0 where
  sets : ℕ → ℕ → Act
  plays : ℕ → ℕ → Act

-- 1 where the colours are equal, else 0
abbrev pub one_if : ℕ → ℕ → ℕ
one_if x c = pick (eqb x c) 1 0

-- the sums of colour x where c is set in place of `stood`: nothing where they are equal, else c is put on and `stood` is taken off
abbrev pub sum_put : (x c stood : ℕ) → Sum → Sum
sum_put x c stood s =
    record { on = sum_up_to s.on (pick (eqb stood c) 0 (one_if c x)); off = sum_up_to s.off (pick (eqb stood c) 0 (one_if stood x)) }

-- the sums of colour x where a stone of colour c is played, n of the other colour are taken and k of its own
abbrev pub sum_off : (x c n k : ℕ) → Sum → Sum
sum_off x c n k s = record { on = s.on; off = sum_up_to s.off (pick (eqb x c) k n) }

-- c at p
abbrev pub puts : (c p : ℕ) → Pos → Pos
puts c p s =
    record {
      stones = set s.stones p c;
      black = sum_put 1 c (at s.stones p) s.black;
      white = sum_put 2 c (at s.stones p) s.white;
    }

-- a stone of colour c played at p: what stands then, n stones of the other colour taken and k of its own
abbrev pub played : (c p : ℕ) (b' : List ℕ) (n k : ℕ) → Pos → Pos
played c p b' n k s =
    record { stones = b'; black = sum_off 1 c n k (puts c p s).black; white = sum_off 2 c n k (puts c p s).white }

-- one act on a board of w columns and h rows; what cannot be set or played there is none
pub data Step (w h : ℕ) : Pos → Act → Pos → Type 0 where
  set-step : {s : Pos} {c p : ℕ} → settable w h c p ≡ true → Step w h s (sets c p) (puts c p s)
  play-step : {s : Pos} {c p : ℕ} {between b' : List ℕ} {n k : ℕ} → playable w h c p ≡ true
      → Takes w h (other_of c) (set s.stones p c) between n → Takes w h c between b' k
      → Step w h s (plays c p) (played c p b' n k s)

-- acts one after another
pub data Steps (w h : ℕ) : Pos → List Act → Pos → Type 0 where
  done : {s : Pos} → Steps w h s [] s
  next : {s s' s'' : Pos} {a : Act} {rest : List Act} → Step w h s a s' → Steps w h s' rest s'' → Steps w h s (a ∷ rest) s''

-- nothing stands, nothing was put on or taken off
abbrev pub empty_pos : Pos
empty_pos = record { stones = replicate 2704 0; black = record { on = 0; off = 0 }; white = record { on = 0; off = 0 } }

-- the sums of colour x are right for the stones, as long as what was put on has not reached the greatest number
abbrev pub Even : ℕ → List ℕ → Sum → Type 0
Even x b s = s.on < sum_most → s.on ≡ standing x b + s.off

-- both colours' sums are right
pub record SumsRight (s : Pos) : Type 0 where
  pub long : length s.stones ≡ 2704
  pub black-even : Even 1 s.stones s.black
  pub white-even : Even 2 s.stones s.white

-- at how many places two boards differ
abbrev pub differing : List ℕ → List ℕ → ℕ
differing [] b = 0
differing (x ∷ a) [] = 0
differing (x ∷ a) (y ∷ b) = pick (eqb y x) (differing a b) (suc (differing a b))
