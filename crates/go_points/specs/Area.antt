-- Letters, points and areas: what a read value stands for as a move or in a list of points.
use Rattle.std.specs.Prelude.{◌+◌, ◌-◌, ◌&&◌, ◌∷◌}
use Rattle.lists.specs.Prelude.{ℕ, List, [], leb, ltb, eqb, pick}
use Rattle.go_points.specs.declared.Area.{Area}
use Rattle.go_points.specs.declared.Area.TheVariants.{Bad, Rect}
use Rattle.go_points.specs.declared.Value.{Value}
use Rattle.go_points.specs.declared.Value.TheVariants.{Invalid, Pass, Move}

-- `a` to `z` are 0 to 25, `A` to `Z` are 26 to 51; any other byte is 52 (SCOPE 99)
unfoldable pub letter_of : ℕ → ℕ
letter_of b = pick (leb 0x61 b && leb b 0x7a) (b - 0x61) (pick (leb 0x41 b && leb b 0x5a) (b - 0x41 + 26) 52)

-- the letter of a coordinate (SCOPE 114)
unfoldable pub letter : ℕ → ℕ
letter n = pick (ltb n 26) (0x61 + n) (0x41 + (n - 26))

-- two letters are a point
unfoldable pub move_to : ℕ → ℕ → Value
move_to x y = pick (leb x 51 && leb y 51) (Move x y) Invalid

-- empty is a pass, else a point (SCOPE 98, 100)
unfoldable pub move_of : List ℕ → Value
move_of [] = Pass
move_of (a ∷ []) = Invalid
move_of (a ∷ b ∷ []) = move_to (letter_of a) (letter_of b)
move_of (a ∷ b ∷ c ∷ r) = Invalid

-- two points, the first nowhere greater (SCOPE 102)
unfoldable pub cornered : (x y x2 y2 : ℕ) → Area
cornered x y x2 y2 = pick ((leb x x2 && leb y y2) && (leb x2 51 && leb y2 51)) (Rect x y x2 y2) Bad

-- a point, or two points with one colon (SCOPE 102, 104)
unfoldable pub area_of : List ℕ → Area
area_of [] = Bad
area_of (a ∷ []) = Bad
area_of (a ∷ b ∷ []) = cornered (letter_of a) (letter_of b) (letter_of a) (letter_of b)
area_of (a ∷ b ∷ c ∷ []) = Bad
area_of (a ∷ b ∷ c ∷ d ∷ []) = Bad
area_of (a ∷ b ∷ c ∷ d ∷ e ∷ []) = pick (eqb c 0x3a) (cornered (letter_of a) (letter_of b) (letter_of d) (letter_of e)) Bad
area_of (a ∷ b ∷ c ∷ d ∷ e ∷ f ∷ r) = Bad
