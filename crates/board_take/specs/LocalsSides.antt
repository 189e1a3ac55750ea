-- The places beside a place, for the contracts of private functions: 2704 where the board ends.
use Rattle.std.specs.Prelude.{◌+◌, ◌-◌, ◌/◌, ◌%◌, ◌&&◌, ◌||◌, ◌≡◌}
use Rattle.lists.specs.Prelude.{ℕ, Bool, true, false, List, ltb, leb, eqb, pick}
use Rattle.board_groups.specs.Board.{at, on_board, beside}
use Rattle.board_groups.specs.Groups.{Stone}

-- in the next column
unfoldable pub right_of : (w p : ℕ) → ℕ
right_of w p = pick (ltb (p / 52 + 1) w && ltb (p + 52) 2704) (p + 52) 2704

-- in the column before
unfoldable pub left_of : ℕ → ℕ
left_of p = pick (leb 52 p) (p - 52) 2704

-- in the next row
unfoldable pub down_of : (h p : ℕ) → ℕ
down_of h p = pick (ltb (p % 52 + 1) h && ltb (p % 52 + 1) 52) (p + 1) 2704

-- in the row before
unfoldable pub up_of : ℕ → ℕ
up_of p = pick (ltb 0 (p % 52)) (p - 1) 2704

-- p is the point of column x and row y
pub record Spot (x y p : ℕ) : Type 0 where
  pub column : x ≡ p / 52
  pub row : y ≡ p % 52

-- a place beside p is empty
pub record Free (w h : ℕ) (b : List ℕ) (p : ℕ) : Type 0 where
  pub point : ℕ
  pub near : beside p point ≡ true
  pub empty : Stone w h b 0 point

-- the answer whether a place beside p is empty
pub record FreeIs (w h : ℕ) (b : List ℕ) (p : ℕ) (r : Bool) : Type 0 where
  pub yes-free : r ≡ true → Free w h b p
  pub no-free : r ≡ false → Free w h b p → ⊥

-- the same answer, where it is asked
pub record FreeAsked (w h : ℕ) (b : List ℕ) (p : ℕ) (stop r : Bool) : Type 0 where
  pub asked : r ≡ true → stop ≡ true
  pub yes-free : r ≡ true → Free w h b p
  pub no-free : stop ≡ true → r ≡ false → Free w h b p → ⊥

-- the place is one, and c stands there
unfoldable pub colour_at : (b : List ℕ) (c q : ℕ) → Bool
colour_at b c q = ltb q 2704 && eqb (at b q) c

-- the place is one, and empty
abbrev pub empty_at : (b : List ℕ) (q : ℕ) → Bool
empty_at b q = colour_at b 0 q

-- the place is one, and empty or of colour c
unfoldable pub held_at : (b : List ℕ) (c q : ℕ) → Bool
held_at b c q = ltb q 2704 && (eqb (at b q) 0 || eqb (at b q) c)

-- c stands at p, a point of the board
unfoldable pub stands_at : (w h : ℕ) (b : List ℕ) (c p : ℕ) → Bool
stands_at w h b c p = on_board w h p && eqb (at b p) c
