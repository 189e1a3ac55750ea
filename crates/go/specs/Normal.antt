-- The normal form of a property's values: as they are written.
use Rattle.std.specs.Prelude.{◌/◌, ◌%◌, ◌∷◌}
use Rattle.lists.specs.Prelude.{ℕ, suc, Bool, List, [], pick}
use Rattle.values.specs.Decimal.{decimal}
use Rattle.go_points.specs.Area.{letter}
use Rattle.go.specs.Value.{go_value}
use Rattle.go_points.specs.declared.Value.{Value}
use Rattle.go_points.specs.declared.Value.TheVariants.{Other, Invalid, Pass, Move, Handicap, Points}

-- the two letters of a place
abbrev pub point_text : ℕ → List ℕ
point_text i = letter (i / 52) ∷ letter (i % 52) ∷ []

-- the marked places from i on as single points: by first coordinate, then second (SCOPE 113, 142)
unfoldable pub points_from : ℕ → List Bool → List (List ℕ)
points_from i [] = []
points_from i (m ∷ ms) = let r = points_from (suc i) ms in pick m (point_text i ∷ r) r

-- a move is its two letters, or nothing for a pass; HA is plain decimal; a set lists its points; any other keeps its raw values (SCOPE 2, 111, 112, 115)
unfoldable pub normal_by : Value → List Bool → List (List ℕ) → List (List ℕ)
normal_by Other marks vs = vs
normal_by Invalid marks vs = vs
normal_by Pass marks vs = [] ∷ []
normal_by (Move x y) marks vs = (letter x ∷ letter y ∷ []) ∷ []
normal_by (Handicap n) marks vs = decimal n ∷ []
normal_by Points marks vs = points_from 0 marks

-- of a property of a tree with this rule, by its read identifier and raw values
unfoldable pub normal : (rule : ℕ) (identifier : List ℕ) (values : List (List ℕ)) → List (List ℕ)
normal rule identifier values = let g = go_value rule identifier values in normal_by g.value g.marks values
