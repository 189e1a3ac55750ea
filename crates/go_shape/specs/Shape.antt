-- What a property takes, by its read identifier.
use Rattle.std.specs.Prelude.{◌&&◌, ◌||◌, ◌∷◌}
use Rattle.lists.specs.Prelude.{ℕ, List, [], eqb, pick}
use Rattle.go_shape.specs.declared.Shape.{Shape}
use Rattle.go_shape.specs.declared.Shape.TheVariants.{OneMove, OneNumber, ManyPoints, Unread}

-- B, W; HA; AB, AW, AE, TB, TW; any other (SCOPE 3)
unfoldable pub shape_of : List ℕ → Shape
shape_of [] = Unread
shape_of (a ∷ []) = pick (eqb a 0x42 || eqb a 0x57) OneMove Unread
shape_of (a ∷ b ∷ []) =
    pick (eqb a 0x48 && eqb b 0x41) OneNumber
    (pick ((eqb a 0x41 && (eqb b 0x42 || (eqb b 0x57 || eqb b 0x45))) || (eqb a 0x54 && (eqb b 0x42 || eqb b 0x57))) ManyPoints Unread)
shape_of (a ∷ b ∷ c ∷ r) = Unread
