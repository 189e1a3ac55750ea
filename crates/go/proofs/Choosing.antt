-- The Go value of a property by the rule of its tree, its shape and the number of its values. Assumes nothing.
use Rattle.lists.proofs.Prelude.{ℕ, zero, suc, ◌+◌, ◌-◌, ◌^◌, ◌≡◌, refl, sym, ap, ◌∙◌, true, false, List, arith}
use Rattle.values.specs.Read.{read_value}
use Rattle.values.specs.Decimal.{decimal_of}
use Rattle.go_points.specs.Area.{move_of}
use Rattle.parts.specs.Rows.{value_at, values_at}
use Rattle.go_shape.specs.Shape.{shape_of}
use Rattle.go.specs.Value.{is_go, move_under, one_by, unmarked, points_of, value_by, go_value}
use Rattle.go_points.specs.Handicap.{handicap_of}
use Rattle.go.specs.declared.value.GoValue.{GoValue}
use Rattle.go_shape.specs.declared.Shape.{Shape}
use Rattle.go_shape.specs.declared.Shape.TheVariants.{OneMove, OneNumber, ManyPoints, Unread}
use Rattle.go_points.specs.declared.Value.{Value}
use Rattle.go_points.specs.declared.Value.TheVariants.{Other, Invalid}

module _ (rule : ℕ) (identifier : List ℕ) (vs : List (List ℕ)) {r : GoValue} where
  pub value-unknown : is_go rule ≡ false → r ≡ unmarked Other → r ≡ go_value rule identifier vs
  unfolding go_value
  value-unknown h e = rw h e

  pub value-shaped : {q s : Shape} → is_go rule ≡ true → q ≡ shape_of identifier → q ≡ s → r ≡ value_by rule s vs → r ≡ go_value rule identifier vs
  unfolding go_value
  value-shaped h e f g = rw (h, ← e, f) g

module _ (f : List ℕ → Value) (text vals : List ℕ) (first : ℕ) where
  none-or-many : (count : ℕ) → (count ≡ 1 → ⊥) → Invalid ≡ one_by f (values_at text vals first count)
  unfolding values_at
  none-or-many zero h = refl
  none-or-many (suc zero) h = absurd (h refl)
  none-or-many (suc (suc n)) h = refl

  one_only : (count : ℕ) {v : List ℕ} → count ≡ 1 → v ≡ value_at text vals (first + 0) → f v ≡ one_by f (values_at text vals first count)
  unfolding values_at
  one_only count h e =
      let z : first + 0 ≡ first = omega arith in
      ap f (e ∙ ap (value_at text vals) z) ∙ sym (ap (λ n. one_by f (values_at text vals first n)) h)

module _ (rule : ℕ) (text vals : List ℕ) (first count : ℕ) where
  abbrev vs : List (List ℕ)
  vs = values_at text vals first count

  pub by-unread : {s : Shape} → s ≡ Unread → Other ≡ (value_by rule s vs).value
  unfolding value_by
  by-unread e = ap (λ (z : Shape). (value_by rule z vs).value) (sym e)

  pub by-set : {s : Shape} {g : GoValue} → s ≡ ManyPoints → g ≡ points_of vs → g.value ≡ (value_by rule s vs).value
  unfolding value_by
  by-set e g = ap (λ (z : GoValue). z.value) g ∙ ap (λ (z : Shape). (value_by rule z vs).value) (sym e)

  pub by-many : (s : Shape) → (s ≡ Unread → ⊥) → (s ≡ ManyPoints → ⊥) → (count ≡ 1 → ⊥) → Invalid ≡ (value_by rule s vs).value
  unfolding value_by
  by-many OneMove h m n = none-or-many (λ v. move_under rule (move_of (read_value v))) text vals first count n
  by-many OneNumber h m n = none-or-many (λ v. handicap_of (decimal_of (2 ^ 63 - 1) (read_value v))) text vals first count n
  by-many ManyPoints h m n = absurd (m refl)
  by-many Unread h m n = absurd (h refl)

  module _ {v : List ℕ} {x : Value} (h : count ≡ 1) (q : v ≡ value_at text vals (first + 0)) where
    pub by_move : {s : Shape} → s ≡ OneMove → x ≡ move_under rule (move_of (read_value v)) → x ≡ (value_by rule s vs).value
    unfolding value_by
    by_move e m = m ∙ one_only (λ v. move_under rule (move_of (read_value v))) text vals first count h q ∙ ap (λ (z : Shape). (value_by rule z vs).value) (sym e)

    pub by_number : {s : Shape} → s ≡ OneNumber → x ≡ handicap_of (decimal_of (2 ^ 63 - 1) (read_value v)) → x ≡ (value_by rule s vs).value
    unfolding value_by
    by_number e m =
        m
        ∙ one_only (λ v. handicap_of (decimal_of (2 ^ 63 - 1) (read_value v))) text vals first count h q
        ∙ ap (λ (z : Shape). (value_by rule z vs).value) (sym e)

-- what is no set has no marks
pub by-alone : (rule : ℕ) (s : Shape) (vs : List (List ℕ)) {x : Value} → (s ≡ ManyPoints → ⊥) → x ≡ (value_by rule s vs).value → unmarked x ≡ value_by rule s vs
unfolding value_by
by-alone rule OneMove vs h e = ap unmarked e
by-alone rule OneNumber vs h e = ap unmarked e
by-alone rule ManyPoints vs h e = absurd (h refl)
by-alone rule Unread vs h e = ap unmarked e
