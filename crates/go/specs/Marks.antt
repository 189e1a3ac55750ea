-- Sets of points as marks in 2,704 places: point (x, y) has place 52 * x + y.
use Rattle.std.specs.Prelude.{◌+◌, ◌/◌, ◌%◌, ◌≡◌, ◌&&◌, ◌||◌, ◌∷◌}
use Rattle.lists.specs.Prelude.{ℕ, zero, suc, Bool, true, false, List, [], leb, ltb, length, get_or}
use Rattle.go_points.specs.declared.Area.{Area}
use Rattle.go_points.specs.declared.Area.TheVariants.{Bad, Rect}

-- the first coordinate from x on and before x2, the second from y on and before y2
unfoldable pub in_rect : (x x2 y y2 : ℕ) → ℕ → Bool
in_rect x x2 y y2 i = (leb x (i / 52) && ltb (i / 52) x2) && (leb y (i % 52) && ltb (i % 52) y2)

-- whether a value stands for points
abbrev pub good : Area → Bool
good Bad = false
good (Rect x y x2 y2) = true

-- whether a place lies in an area
abbrev pub in_area : Area → ℕ → Bool
in_area Bad i = false
in_area (Rect x y x2 y2) i = in_rect x (x2 + 1) y (y2 + 1) i

-- each value stands for points (SCOPE 104)
abbrev pub all_good : List Area → Bool
all_good [] = true
all_good (a ∷ rest) = good a && all_good rest

-- the union, duplicates merged (SCOPE 103)
abbrev pub in_some : List Area → ℕ → Bool
in_some [] i = false
in_some (a ∷ rest) i = in_area a i || in_some rest i

-- the marks of n places from i on
unfoldable pub marks_from : (ℕ → Bool) → (i n : ℕ) → List Bool
marks_from f i zero = []
marks_from f i (suc n) = f i ∷ marks_from f (suc i) n

-- the marks of all places (SCOPE 105)
unfoldable pub marks_of : (ℕ → Bool) → List Bool
marks_of f = marks_from f 0 2704

-- new has the marks of old and those of f
pub record Adds (f : ℕ → Bool) (old new : List Bool) : Type 0 where
  pub as_long : length new ≡ length old
  pub at : (i : ℕ) → get_or new i false ≡ (f i || get_or old i false)
