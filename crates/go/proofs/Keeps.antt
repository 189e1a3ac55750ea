-- What the normal form keeps: what holds of raw values and of bytes that stand for themselves, and that there is a value. Assumes nothing.
use Rattle.lists.proofs.Prelude.{ℕ, ◌+◌, ◌*◌, ◌/◌, ◌%◌, ◌≤◌, ◌<◌, ◌≡◌, refl, sym, ap, ◌∙◌, subst, Bool, true, false, ◌&&◌, ◌||◌, false≢true, List, [], ◌∷◌, arith, length, get_or, le-leb, lt-ltb}
use Rattle.lists.specs.All.{All}
use Rattle.lists.proofs.All.{all_map}
use Rattle.lists.proofs.Pick.{pick-elim}
use Rattle.values.specs.Read.{read_value}
use Rattle.values.specs.Decimal.{decimal}
use Rattle.values.proofs.Safe.{Safe, decimal-safe}
use Rattle.go_points.specs.Area.{area_of}
use Rattle.go.specs.Marks.{in_rect, good, in_area, all_good, in_some, marks_of}
use Rattle.go.specs.Normal.{points_from, normal_by, normal}
use Rattle.go_shape.specs.Shape.{shape_of}
use Rattle.go.specs.Value.{is_go, no_marks, areas_of, points_of, value_by, go_value}
use Rattle.go_points.specs.declared.Area.{Area}
use Rattle.go_points.specs.declared.Area.TheVariants.{Bad, Rect}
use Rattle.go.specs.declared.value.GoValue.{GoValue}
use Rattle.go_shape.specs.declared.Shape.{Shape}
use Rattle.go_shape.specs.declared.Shape.TheVariants.{OneMove, OneNumber, ManyPoints, Unread}
use Rattle.go_points.specs.declared.Value.{Value}
use Rattle.go_points.specs.declared.Value.TheVariants.{Other, Invalid, Pass, Move, Handicap, Points}
use Rattle.go_points.proofs.Letters.{point-safe}
use Rattle.go.proofs.Listed.{points-safe, points-some}
use Rattle.go.proofs.Marked.{marks-all, marks-place}
use Rattle.go.proofs.Sets.{Cornered, area-cornered}
use Rattle.go.proofs.Shapes.{Moved, Numbered, moves, numbers, moves-moved, numbers-numbered, points-valid, points-invalid}

-- what the writing of a value needs of it: coordinates on the board, 2,704 places, and a mark where there is a value
abbrev Fine : List (List ℕ) → Value → List Bool → Type 0
Fine vs Other ms = Unit {0}
Fine vs Invalid ms = Unit {0}
Fine vs Pass ms = Unit {0}
Fine vs (Move x y) ms = (x ≤ 51) × (y ≤ 51)
Fine vs (Handicap n) ms = Unit {0}
Fine vs Points ms = (length ms ≡ 2704) × (0 < length vs → (i : ℕ) × (get_or ms i false ≡ true))

moved-fine : (rule : ℕ) (vs : List (List ℕ)) (v : Value) (ms : List Bool) → Moved rule v → Fine vs v ms
moved-fine rule vs Other ms h = tt
moved-fine rule vs Invalid ms h = tt
moved-fine rule vs Pass ms h = tt
moved-fine rule vs (Move x y) ms h = (h.0, h.1)
moved-fine rule vs (Handicap n) ms h = tt
moved-fine rule vs Points ms h = absurd h

numbered-fine : (vs : List (List ℕ)) (v : Value) (ms : List Bool) → Numbered v → Fine vs v ms
numbered-fine vs Other ms h = tt
numbered-fine vs Invalid ms h = tt
numbered-fine vs Pass ms h = tt
numbered-fine vs (Move x y) ms h = absurd h
numbered-fine vs (Handicap n) ms h = tt
numbered-fine vs Points ms h = absurd h

-- the first corner of an area lies in it
corner-in : (a : Area) → Cornered a → good a ≡ true → (i : ℕ) × (i < 2704) × (in_area a i ≡ true)
unfolding in_rect
corner-in Bad c e = absurd (false≢true e)
corner-in (Rect x y x2 y2) c e =
    let p : (52 * x + y) / 52 ≡ x = omega (arith, c) in
    let q : (52 * x + y) % 52 ≡ y = omega (arith, c) in (
      52 * x + y,
      omega (arith, c),
      rw (p, q, le-leb x x (omega arith), lt-ltb x (x2 + 1) (omega (arith, c)), le-leb y y (omega arith), lt-ltb y (y2 + 1) (omega (arith, c))),
    )

some-marked : (vs : List (List ℕ)) → all_good (areas_of vs) ≡ true → 0 < length vs → (i : ℕ) × (get_or (marks_of (in_some (areas_of vs))) i false ≡ true)
some-marked [] e h = absurd (omega arith)
some-marked (v ∷ vs) e h = go (good (area_of (read_value v))) refl e
  where
    go : (t : Bool) → good (area_of (read_value v)) ≡ t → (t && all_good (areas_of vs)) ≡ true → (i : ℕ) × (get_or (marks_of (in_some (areas_of (v ∷ vs)))) i false ≡ true)
    go true g f =
        let w = corner-in (area_of (read_value v)) (area-cornered (read_value v)) g in
        (w.0, marks-place (in_some (areas_of (v ∷ vs))) w.0 w.1 ∙ ap (λ t. t || in_some (areas_of vs) w.0) w.2)
    go false g f = absurd (false≢true f)

set-fine : (vs : List (List ℕ)) → Fine vs (points_of vs).value (points_of vs).marks
set-fine vs = go (all_good (areas_of vs)) refl
  where
    go : (t : Bool) → all_good (areas_of vs) ≡ t → Fine vs (points_of vs).value (points_of vs).marks
    go true e = subst (λ (g : GoValue). Fine vs g.value g.marks) (sym (points-valid vs e)) (marks-all (in_some (areas_of vs)), some-marked vs e)
    go false e = subst (λ (g : GoValue). Fine vs g.value g.marks) (sym (points-invalid vs e)) tt

shape-fine : (rule : ℕ) (s : Shape) (vs : List (List ℕ)) → Fine vs (value_by rule s vs).value (value_by rule s vs).marks
unfolding value_by
shape-fine rule OneMove vs = moved-fine rule vs (moves rule vs) no_marks (moves-moved rule vs)
shape-fine rule OneNumber vs = numbered-fine vs (numbers vs) no_marks (numbers-numbered vs)
shape-fine rule ManyPoints vs = set-fine vs
shape-fine rule Unread vs = tt

value-fine : (rule : ℕ) (identifier : List ℕ) (vs : List (List ℕ)) → Fine vs (go_value rule identifier vs).value (go_value rule identifier vs).marks
unfolding go_value
value-fine rule identifier vs = pick-elim (λ (g : GoValue). Fine vs g.value g.marks) (is_go rule) (λ e. shape-fine rule (shape_of identifier) vs) (λ e. tt)

module _ (P : List ℕ → Type 0) (safe : (w : List ℕ) → All Safe w → P w) where
  written_all : (vs : List (List ℕ)) (v : Value) (ms : List Bool) → Fine vs v ms → All P vs → All P (normal_by v ms vs)
  unfolding normal_by
  written_all vs Other ms f h = h
  written_all vs Invalid ms f h = h
  written_all vs Pass ms f h = (safe [] tt, tt)
  written_all vs (Move x y) ms f h = (safe _ (point-safe x y (omega (arith, f)) (omega (arith, f))), tt)
  written_all vs (Handicap n) ms f h = (safe (decimal n) (decimal-safe n), tt)
  written_all vs Points ms f h = all_map (All Safe) P safe (points_from 0 ms) (points-safe 0 ms (omega (arith, f.0)))

  -- what holds of all raw values, and of bytes that stand for themselves, holds of all normal values
  pub normal-all : (rule : ℕ) (identifier : List ℕ) (vs : List (List ℕ)) → All P vs → All P (normal rule identifier vs)
  unfolding normal
  normal-all rule identifier vs h = written_all vs (go_value rule identifier vs).value (go_value rule identifier vs).marks (value-fine rule identifier vs) h

written-some : (vs : List (List ℕ)) (v : Value) (ms : List Bool) → Fine vs v ms → 0 < length vs → 0 < length (normal_by v ms vs)
unfolding normal_by
written-some vs Other ms f h = h
written-some vs Invalid ms f h = h
written-some vs Pass ms f h = omega arith
written-some vs (Move x y) ms f h = omega arith
written-some vs (Handicap n) ms f h = omega arith
written-some vs Points ms f h = let w = f.1 h in points-some 0 ms w.0 w.1

pub normal-some : (rule : ℕ) (identifier : List ℕ) (vs : List (List ℕ)) → 0 < length vs → 0 < length (normal rule identifier vs)
unfolding normal
normal-some rule identifier vs h = written-some vs (go_value rule identifier vs).value (go_value rule identifier vs).marks (value-fine rule identifier vs) h
