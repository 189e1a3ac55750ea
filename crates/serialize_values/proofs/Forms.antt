-- Values of each shape as they are written. Assumes nothing.
use Rattle.lists.proofs.Prelude.{ℕ, ◌≤◌, ◌≡◌, refl, sym, ap, ◌∙◌, Bool, true, false, List, [], ◌∷◌, length}
use types.Run.{OneOf}
use denote.Enum.Declared.{tag_of}
use Rattle.values.specs.Decimal.{decimal}
use Rattle.go_points.specs.Area.{letter}
use Rattle.go.specs.Marks.{all_good, in_some, marks_of}
use Rattle.go.specs.Normal.{points_from, normal_by, normal}
use Rattle.go_shape.specs.Shape.{shape_of}
use Rattle.go.specs.Value.{is_go, no_marks, unmarked, areas_of, points_of, value_by, go_value}
use Rattle.go.specs.declared.value.GoValue.{GoValue}
use Rattle.go_shape.specs.declared.Shape.{Shape}
use Rattle.go_shape.specs.declared.Shape.TheVariants.{ManyPoints}
use Rattle.go_points.specs.declared.Value.{Value}
use Rattle.go_points.specs.declared.Value.TheVariants.{Invalid, Pass, Move, Handicap, Points}
use Rattle.go_points.specs.contracts.Value as value
use Rattle.go.proofs.Marked.{marks-all}
use Rattle.go.proofs.Shapes.{points-valid, points-invalid}
use Rattle.serialize_values.specs.LocalsForm.{form_by}
use Rattle.serialize_values.proofs.Variants.{single, raw-only}

pub normal-shaped : (rule : ℕ) (identifier : List ℕ) (vs : List (List ℕ)) {q s : Shape} → is_go rule ≡ true → q ≡ shape_of identifier → q ≡ s → form_by rule s vs ≡ normal rule identifier vs
unfolding normal go_value form_by
normal-shaped rule identifier vs h e f = rw (h, ← e, f)

-- a set is written the same under every rule
pub set-form : (rule : ℕ) (vs : List (List ℕ)) → form_by 0 ManyPoints vs ≡ form_by rule ManyPoints vs
unfolding form_by value_by
set-form rule vs = refl

-- a Go value, written
form-value : (rule : ℕ) (s : Shape) (vs : List (List ℕ)) {g : GoValue} → g ≡ value_by rule s vs → normal_by g.value g.marks vs ≡ form_by rule s vs
unfolding form_by
form-value rule s vs e = ap (λ (g : GoValue). normal_by g.value g.marks vs) e

-- ---- sets

module _ (vs : List (List ℕ)) {g : GoValue} (e : g ≡ points_of vs) where
  by-points : g ≡ value_by 0 ManyPoints vs
  unfolding value_by
  by-points = e

  either-set : {X : Type 0} → (g ≡ unmarked Invalid → X) → ((m : List Bool) → length m ≡ 2704 → g.value ≡ Points → g.marks ≡ m → X) → X
  either-set {X} bad good = go (all_good (areas_of vs)) refl
    where
      go : (t : Bool) → all_good (areas_of vs) ≡ t → X
      go true q = let p = e ∙ points-valid vs q in good (marks_of (in_some (areas_of vs))) (marks-all (in_some (areas_of vs))) (ap (λ (x : GoValue). x.value) p) (ap (λ (x : GoValue). x.marks) p)
      go false q = bad (e ∙ points-invalid vs q)

  pub set-raw : {v : Value} → v ≡ g.value → (v ≡ Points → ⊥) → vs ≡ form_by 0 ManyPoints vs
  unfolding normal_by
  set-raw q h =
      either-set (λ p. ap (λ (x : GoValue). normal_by x.value x.marks vs) (sym p) ∙ form-value 0 ManyPoints vs by-points)
      (λ m l p k. absurd (h (q ∙ p)))

  module _ {v : Value} (q : v ≡ g.value) (h : v ≡ Points) where
    pub set-points : points_from 0 g.marks ≡ form_by 0 ManyPoints vs
    unfolding normal_by
    set-points = ap (λ (x : Value). normal_by x g.marks vs) (sym h ∙ q) ∙ form-value 0 ManyPoints vs by-points

-- ---- moves and numbers

module _ (rule : ℕ) (s : Shape) (vs : List (List ℕ)) {x : Value} (e : unmarked x ≡ value_by rule s vs) where
  one_form : {y : Value} → x ≡ y → normal_by y no_marks vs ≡ form_by rule s vs
  one_form q = ap (λ (z : Value). normal_by z no_marks vs) (sym q) ∙ form-value rule s vs e

  pub one-pass : x ≡ Pass → [] ∷ [] ≡ form_by rule s vs
  unfolding normal_by
  one-pass q = one_form q

  pub one-point : {a b : ℕ} → x ≡ Move a b → (letter a ∷ letter b ∷ []) ∷ [] ≡ form_by rule s vs
  unfolding normal_by
  one-point q = one_form q

  pub one-stones : {n : ℕ} → x ≡ Handicap n → decimal n ∷ [] ≡ form_by rule s vs
  unfolding normal_by
  one-stones q = one_form q

  module _ (h : s ≡ ManyPoints → ⊥) where
    pub one_inside : {a b : ℕ} → x ≡ Move a b → (a ≤ 51) × (b ≤ 51)
    one_inside q = single rule s vs h (ap unmarked (sym q) ∙ e)

    pub one-raw : OneOf (0 ∷ 1 ∷ 5 ∷ []) (tag_of value.the_type x) → vs ≡ form_by rule s vs
    one-raw t = raw-only x t (single rule s vs h e) no_marks vs ∙ form-value rule s vs e
