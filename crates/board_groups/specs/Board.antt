-- The points of a board: point (x, y) has place 52 * x + y; 0 is empty, 1 black, 2 white.
use Rattle.std.specs.Prelude.{◌/◌, ◌%◌, ◌&&◌, ◌||◌, ◌∷◌}
use Rattle.lists.specs.Prelude.{ℕ, suc, Bool, List, [], ltb, eqb, get_or, pick}

-- what stands at a place
abbrev pub at : List ℕ → ℕ → ℕ
at b p = get_or b p 0

-- the place is on a board of w columns and h rows
unfoldable pub on_board : (w h p : ℕ) → Bool
on_board w h p = (ltb (p / 52) w && ltb (p % 52) h) && ltb p 2704

-- one is the other's successor
abbrev pub next_to : ℕ → ℕ → Bool
next_to a b = eqb a (suc b) || eqb b (suc a)

-- two places are beside each other: in one column or in one row, a step apart
unfoldable pub beside : (p q : ℕ) → Bool
beside p q = (eqb (p / 52) (q / 52) && next_to (p % 52) (q % 52)) || (eqb (p % 52) (q % 52) && next_to (p / 52) (q / 52))

-- how many places hold c
abbrev pub standing : ℕ → List ℕ → ℕ
standing c [] = 0
standing c (x ∷ b) = pick (eqb x c) (suc (standing c b)) (standing c b)
