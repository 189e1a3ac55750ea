-- The Go value of a property by its read identifier, in Go trees. The rule of a tree is how its values are read: 0 Go where `tt` is a pass, 1 another game, 2 Go where `tt` is a point.
use Rattle.std.specs.Prelude.{◌-◌, ◌^◌, ◌&&◌, ◌||◌, ◌∷◌}
use Rattle.lists.specs.Prelude.{ℕ, Bool, false, List, [], map, eqb, replicate, pick}
use Rattle.values.specs.Read.{read_value}
use Rattle.values.specs.Decimal.{decimal_of}
use Rattle.go_points.specs.Area.{move_of, area_of}
use Rattle.go_points.specs.Handicap.{handicap_of}
use Rattle.go_shape.specs.Shape.{shape_of}
use Rattle.go.specs.Marks.{all_good, in_some, marks_of}
use Rattle.go_points.specs.declared.Area.{Area}
use Rattle.go_shape.specs.declared.Shape.{Shape}
use Rattle.go_shape.specs.declared.Shape.TheVariants.{OneMove, OneNumber, ManyPoints, Unread}
use Rattle.go_points.specs.declared.Value.{Value}
use Rattle.go_points.specs.declared.Value.TheVariants.{Other, Invalid, Pass, Move, Handicap, Points}
use Rattle.go.specs.declared.value.GoValue.{GoValue}

-- the rules of Go
abbrev pub is_go : ℕ → Bool
is_go rule = eqb rule 0 || eqb rule 2

-- a move under a rule: the point (19, 19), which only `tt` reads as, is a pass where the rule is 0 (SCOPE 240)
unfoldable pub move_under : (rule : ℕ) → Value → Value
move_under rule Other = Other
move_under rule Invalid = Invalid
move_under rule Pass = Pass
move_under rule (Move x y) = pick (eqb rule 0 && (eqb x 19 && eqb y 19)) Pass (Move x y)
move_under rule (Handicap n) = Handicap n
move_under rule Points = Points

-- one value by f (SCOPE 98)
abbrev pub one_by : (List ℕ → Value) → List (List ℕ) → Value
one_by f [] = Invalid
one_by f (v ∷ []) = f v
one_by f (v ∷ w ∷ ws) = Invalid

-- no point marked in any of the 2,704 places (SCOPE 106)
abbrev pub no_marks : List Bool
no_marks = replicate 2704 false

-- a value that is no set has no mark (SCOPE 106)
abbrev pub unmarked : Value → GoValue
unmarked v = record { value = v; marks = no_marks }

-- a valid set, with its points marked
abbrev pub marked : List Bool → GoValue
marked m = record { value = Points; marks = m }

-- what each raw value stands for, once it is read (SCOPE 107)
abbrev pub areas_of : List (List ℕ) → List Area
areas_of vs = map (λ v. area_of (read_value v)) vs

-- the union of all, where each value stands for points (SCOPE 103)
unfoldable pub points_of : List (List ℕ) → GoValue
points_of vs = pick (all_good (areas_of vs)) (marked (marks_of (in_some (areas_of vs)))) (unmarked Invalid)

-- a move under the rule, a number of stones, a set of points, or "other"
unfoldable pub value_by : (rule : ℕ) → Shape → List (List ℕ) → GoValue
value_by rule OneMove vs = unmarked (one_by (λ v. move_under rule (move_of (read_value v))) vs)
value_by rule OneNumber vs = unmarked (one_by (λ v. handicap_of (decimal_of (2 ^ 63 - 1) (read_value v))) vs)
value_by rule ManyPoints vs = points_of vs
value_by rule Unread vs = unmarked Other

-- of a property of a tree with this rule, by its read identifier and raw values; "other" where the rule is none of Go's (SCOPE 96)
unfoldable pub go_value : (rule : ℕ) (identifier : List ℕ) (values : List (List ℕ)) → GoValue
go_value rule identifier values = pick (is_go rule) (value_by rule (shape_of identifier) values) (unmarked Other)
