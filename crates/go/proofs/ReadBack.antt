-- Reading back: the normal form of values has their Go value, and is its own normal form. Assumes nothing.
use Rattle.lists.proofs.Prelude.{ℕ, ◌-◌, ◌^◌, ◌≡◌, refl, sym, ap, ◌∙◌, subst, Bool, true, false, List, [], ◌∷◌, arith, le-leb, pick}
use Rattle.values.specs.Read.{read_from}
use Rattle.values.proofs.RoundTrip.{decimal-back}
use Rattle.go_points.specs.Area.{move_of}
use Rattle.go.specs.Marks.{all_good, in_some, marks_of}
use Rattle.go.specs.Normal.{normal_by, normal}
use Rattle.go_shape.specs.Shape.{shape_of}
use Rattle.go.specs.Value.{is_go, move_under, no_marks, unmarked, areas_of, points_of, value_by, go_value}
use Rattle.go_points.specs.Handicap.{handicap_of}
use Rattle.go.specs.declared.value.GoValue.{GoValue}
use Rattle.go_shape.specs.declared.Shape.{Shape}
use Rattle.go_shape.specs.declared.Shape.TheVariants.{OneMove, OneNumber, ManyPoints, Unread}
use Rattle.go_points.specs.declared.Value.{Value}
use Rattle.go_points.specs.declared.Value.TheVariants.{Other, Invalid, Pass, Move, Handicap, Points}
use Rattle.go_points.proofs.Letters.{move-back}
use Rattle.go.proofs.Listed.{points-back}
use Rattle.go.proofs.Marked.{marks-all}
use Rattle.go.proofs.Shapes.{Moved, Numbered, moves, numbers, moves-moved, numbers-numbered, points-valid, points-invalid}

-- ---- each shape reads back

moves-back : (rule : ℕ) (v : Value) (ms : List Bool) (vs : List (List ℕ)) → moves rule vs ≡ v → Moved rule v → moves rule (normal_by v ms vs) ≡ v
unfolding normal_by read_from move_of move_under
moves-back rule Other ms vs e h = e
moves-back rule Invalid ms vs e h = e
moves-back rule Pass ms vs e h = refl
moves-back rule (Move x y) ms vs e h = ap (move_under rule) (move-back x y (omega (arith, h.0)) (omega (arith, h.1))) ∙ rw h.2
moves-back rule (Handicap n) ms vs e h = absurd h
moves-back rule Points ms vs e h = absurd h

numbers-back : (v : Value) (ms : List Bool) (vs : List (List ℕ)) → numbers vs ≡ v → Numbered v → numbers (normal_by v ms vs) ≡ v
unfolding normal_by handicap_of
numbers-back Other ms vs e h = e
numbers-back Invalid ms vs e h = e
numbers-back Pass ms vs e h = absurd h
numbers-back (Move x y) ms vs e h = absurd h
numbers-back (Handicap n) ms vs e h = ap handicap_of (decimal-back (2 ^ 63 - 1) n h.1 (omega (arith, h))) ∙ rw (le-leb 2 n h.0)
numbers-back Points ms vs e h = absurd h

set_back : (vs : List (List ℕ)) → points_of (normal_by (points_of vs).value (points_of vs).marks vs) ≡ points_of vs
unfolding normal_by
set_back vs = go (all_good (areas_of vs)) refl
  where
    Back : GoValue → Type 0
    Back g = points_of (normal_by g.value g.marks vs) ≡ g

    go : (t : Bool) → all_good (areas_of vs) ≡ t → Back (points_of vs)
    go true e = subst Back (sym (points-valid vs e)) (points-back (marks_of (in_some (areas_of vs))) (marks-all (in_some (areas_of vs))))
    go false e = subst Back (sym (points-invalid vs e)) (points-invalid vs e)

shape-back : (rule : ℕ) (s : Shape) (vs : List (List ℕ)) → value_by rule s (normal_by (value_by rule s vs).value (value_by rule s vs).marks vs) ≡ value_by rule s vs
unfolding value_by
shape-back rule OneMove vs = ap unmarked (moves-back rule (moves rule vs) no_marks vs refl (moves-moved rule vs))
shape-back rule OneNumber vs = ap unmarked (numbers-back (numbers vs) no_marks vs refl (numbers-numbered vs))
shape-back rule ManyPoints vs = set_back vs
shape-back rule Unread vs = refl

-- ---- every property

module _ (rule : ℕ) (identifier : List ℕ) where
  pub normal-value : (vs : List (List ℕ)) → go_value rule identifier (normal rule identifier vs) ≡ go_value rule identifier vs
  unfolding go_value normal normal_by
  normal-value vs = go (is_go rule)
    where
      go : (t : Bool)
          → (let g = pick t (value_by rule (shape_of identifier) vs) (unmarked Other) in pick t (value_by rule (shape_of identifier) (normal_by g.value g.marks vs)) (unmarked Other) ≡ g)
      go true = shape-back rule (shape_of identifier) vs
      go false = refl

  written_twice : (v : Value) (ms : List Bool) (vs : List (List ℕ)) → normal_by v ms (normal_by v ms vs) ≡ normal_by v ms vs
  unfolding normal_by
  written_twice Other ms vs = refl
  written_twice Invalid ms vs = refl
  written_twice Pass ms vs = refl
  written_twice (Move x y) ms vs = refl
  written_twice (Handicap n) ms vs = refl
  written_twice Points ms vs = refl

  pub normal-twice : (vs : List (List ℕ)) → normal rule identifier (normal rule identifier vs) ≡ normal rule identifier vs
  unfolding normal
  normal-twice vs =
      let g : GoValue = go_value rule identifier vs in
      ap (λ (h : GoValue). normal_by h.value h.marks (normal rule identifier vs)) (normal-value vs) ∙ written_twice g.value g.marks vs

  -- a property that is not read keeps its raw values
  pub normal-other : (vs : List (List ℕ)) → shape_of identifier ≡ Unread → normal rule identifier vs ≡ vs
  unfolding normal go_value value_by normal_by
  normal-other vs e = go (is_go rule)
    where
      go : (t : Bool) → (let g = pick t (value_by rule (shape_of identifier) vs) (unmarked Other) in normal_by g.value g.marks vs ≡ vs)
      go true = ap (λ (s : Shape). normal_by (value_by rule s vs).value (value_by rule s vs).marks vs) e
      go false = refl

  -- so does one of an unknown game
  pub normal-unknown : (vs : List (List ℕ)) → is_go rule ≡ false → normal rule identifier vs ≡ vs
  unfolding normal go_value normal_by
  normal-unknown vs h = rw h

  -- so does one whose value is invalid
  pub normal-invalid : (vs : List (List ℕ)) → (go_value rule identifier vs).value ≡ Invalid → normal rule identifier vs ≡ vs
  unfolding normal normal_by
  normal-invalid vs e = ap (λ (v : Value). normal_by v (go_value rule identifier vs).marks vs) e

-- and the game type
pub normal-game : (rule : ℕ) (vs : List (List ℕ)) → normal rule (0x47 ∷ 0x4d ∷ []) vs ≡ vs
unfolding shape_of
normal-game rule vs = normal-other rule (0x47 ∷ 0x4d ∷ []) vs refl
