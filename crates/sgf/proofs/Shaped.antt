-- The Go value of a property by what it takes under the rule of its tree. Assumes nothing.
use Rattle.lists.proofs.Prelude.{ℕ, ◌≡◌, refl, sym, ap, ◌∙◌, Bool, true, false, List, pick}
use Rattle.go_shape.specs.Shape.{shape_of}
use Rattle.go_shape.specs.declared.Shape.{Shape}
use Rattle.go_shape.specs.declared.Shape.TheVariants.{ManyPoints, Unread}
use Rattle.go_points.specs.declared.Value.{Value}
use Rattle.go_points.specs.declared.Value.TheVariants.{Other}
use Rattle.go.specs.Value.{is_go, unmarked, points_of, value_by, go_value}
use Rattle.go.specs.declared.value.GoValue.{GoValue}
use Rattle.go.proofs.Choosing.{by-alone}

module _ (rule : ℕ) (identifier : List ℕ) (vs : List (List ℕ)) {s : Shape} (h : s ≡ pick (is_go rule) (shape_of identifier) Unread) where
  by-shape-in : value_by rule s vs ≡ go_value rule identifier vs
  unfolding go_value value_by
  by-shape-in = ap (λ (z : Shape). value_by rule z vs) h ∙ go (is_go rule)
    where
      go : (b : Bool) → value_by rule (pick b (shape_of identifier) Unread) vs ≡ pick b (value_by rule (shape_of identifier) vs) (unmarked Other)
      go true = refl
      go false = refl

  pub set-shaped : {g : GoValue} → s ≡ ManyPoints → g ≡ points_of vs → g ≡ go_value rule identifier vs
  unfolding value_by
  set-shaped e g = g ∙ ap (λ (z : Shape). value_by rule z vs) (sym e) ∙ by-shape-in

  pub alone-shaped : {x : Value} → (s ≡ ManyPoints → ⊥) → x ≡ (value_by rule s vs).value → unmarked x ≡ go_value rule identifier vs
  alone-shaped n e = by-alone rule s vs n e ∙ by-shape-in

module _ (rule : ℕ) (identifier : List ℕ) where
  pub shape-unknown : is_go rule ≡ false → Unread ≡ pick (is_go rule) (shape_of identifier) Unread
  shape-unknown h = rw h

  pub shape-go : {s : Shape} → is_go rule ≡ true → s ≡ shape_of identifier → s ≡ pick (is_go rule) (shape_of identifier) Unread
  shape-go h e = rw h e
