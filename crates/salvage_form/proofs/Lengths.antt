-- Lengths of the values of each shape as they are written, and of a property. Assumes nothing.
use Rattle.lists.proofs.Prelude.{ℕ, ◌+◌, ◌-◌, ◌≤◌, ◌<◌, ◌≡◌, refl, sym, ap, ◌∙◌, Bool, List, [], ◌∷◌, ◌++◌, map, arith, length, length-append, take, slice, take-length, eqb, true, false, ◌&&◌, le-leb, and-false, lt-leb}
use types.Run.{OneOf, miss}
use denote.Enum.Declared.{tag_of}
use Rattle.values.specs.Read.{read_identifier, read_value}
use Rattle.values.specs.Decimal.{decimal}
use Rattle.lexer.specs.Step.{prop_at}
use Rattle.tables.specs.Numbers.{text_limit}
use Rattle.parts.specs.Rows.{value_at, values_at}
use Rattle.go_points.specs.declared.Value.{Value as Read}
use Rattle.go_points.specs.declared.Value.TheVariants.{Other, Invalid, Pass, Move, Handicap, Points}
use Rattle.go_points.specs.Area.{move_of}
use Rattle.go_points.specs.contracts.Value as value
use Rattle.go_shape.specs.declared.Shape.{Shape}
use Rattle.go_shape.specs.declared.Shape.TheVariants.{OneMove, OneNumber, ManyPoints, Unread}
use Rattle.go.specs.Normal.{points_from, normal_by, normal}
use Rattle.go.proofs.Choosing.{by-alone}
use Rattle.go.specs.Value.{move_under, unmarked, marked, points_of, value_by}
use Rattle.go.proofs.Playing.{play-pass, play-point}
use Rattle.serialize_values.specs.LocalsForm.{form_by, raws_text}
use Rattle.serialize_values.proofs.Forms.{set-raw, set-points, one-pass, one-point, one-stones, one-raw}
use Rattle.lists.proofs.Tests.{never}
use Rattle.serialize.specs.Branch.{vals_text}
use Rattle.serialize.specs.Form.{placeless_val}
use Rattle.salvage_form.specs.Measured.{raws_at, length_of, property_length}
use Rattle.salvage_form.specs.LocalsMeasured.{form_length}
use Rattle.salvage_form.proofs.Scanned.{box-length, none-length}

-- ---- one value by a row of its own

row_one : (v : List ℕ) {n : ℕ} → n ≡ length v → values_at v (0 ∷ n ∷ []) 0 1 ≡ v ∷ []
unfolding values_at value_at
row_one v {n} e = let q : n - 0 ≡ length v = omega arith in ap (λ (z : ℕ). take z v ∷ []) q ∙ ap (λ (z : List ℕ). z ∷ []) (take-length v)

pub row-value : (rule : ℕ) (s : Shape) (v : List ℕ) {n : ℕ} {x : Read} → (s ≡ ManyPoints → ⊥) → n ≡ length v → x ≡ (value_by rule s (values_at v (0 ∷ n ∷ []) 0 1)).value → unmarked x ≡ value_by rule s (v ∷ [])
row-value rule s v h e q = by-alone rule s (v ∷ []) h (q ∙ ap (λ (z : List (List ℕ)). (value_by rule s z).value) (row_one v e))

abbrev boxed : List (List ℕ) → ℕ
boxed vs = length (raws_text vs)

module _ (rule : ℕ) (s : Shape) (v : List ℕ) {x : Read} (e : unmarked x ≡ value_by rule s (v ∷ [])) where
  pub alone-pass : x ≡ Pass → 2 ≡ length (raws_text (form_by rule s (v ∷ [])))
  unfolding raws_text
  alone-pass q = ap boxed (one-pass rule s (v ∷ []) e q)

  pub alone-point : {a b : ℕ} → x ≡ Move a b → 4 ≡ length (raws_text (form_by rule s (v ∷ [])))
  unfolding raws_text
  alone-point q = ap boxed (one-point rule s (v ∷ []) e q)

  pub alone-stones : {n r : ℕ} → x ≡ Handicap n → r ≡ length (decimal n) → r + 2 ≡ length (raws_text (form_by rule s (v ∷ [])))
  alone-stones {n} {r} q h =
      let l = box-length (decimal n) [] in
      let o = none-length in
      let w : length (raws_text (decimal n ∷ [])) ≡ length (raws_text (form_by rule s (v ∷ []))) = ap boxed (one-stones rule s (v ∷ []) e q) in
      omega arith

  pub alone-raw : (s ≡ ManyPoints → ⊥) → OneOf (0 ∷ 1 ∷ 5 ∷ []) (tag_of value.the_type x) → length v + 2 ≡ length (raws_text (form_by rule s (v ∷ [])))
  alone-raw h t =
      let l = box-length v [] in
      let o = none-length in
      let w : length (raws_text (v ∷ [])) ≡ length (raws_text (form_by rule s (v ∷ []))) = ap boxed (one-raw rule s (v ∷ []) e h t) in
      omega arith

-- ---- a move

module _ (rule : ℕ) (v : List ℕ) {x : Read} (e : x ≡ move_of (read_value v)) where
  move-value : {y : Read} → y ≡ move_under rule x → unmarked y ≡ value_by rule OneMove (v ∷ [])
  unfolding value_by
  move-value h = ap unmarked (h ∙ ap (move_under rule) e)

  pub move-pass : x ≡ Pass → 2 ≡ length (raws_text (form_by rule OneMove (v ∷ [])))
  unfolding move_under
  move-pass q = alone-pass rule OneMove v (move-value (ap (move_under rule) (sym q))) refl

  pub move-corner : {a b : ℕ} → x ≡ Move a b → (eqb rule 0 && (eqb a 19 && eqb b 19)) ≡ true → 2 ≡ length (raws_text (form_by rule OneMove (v ∷ [])))
  move-corner q h = alone-pass rule OneMove v (move-value (play-pass rule q h)) refl

  pub move-point : {a b : ℕ} → x ≡ Move a b → (eqb rule 0 && (eqb a 19 && eqb b 19)) ≡ false → 4 ≡ length (raws_text (form_by rule OneMove (v ∷ [])))
  move-point q h = alone-point rule OneMove v (move-value (play-point rule q h)) refl

  pub move-stones : {n r : ℕ} → x ≡ Handicap n → r ≡ length (decimal n) → r + 2 ≡ length (raws_text (form_by rule OneMove (v ∷ [])))
  unfolding move_under
  move-stones {n} q h = alone-stones rule OneMove v (move-value (ap (move_under rule) (sym q))) refl h

  pub move-raw : OneOf (0 ∷ 1 ∷ 5 ∷ []) (tag_of value.the_type x) → length v + 2 ≡ length (raws_text (form_by rule OneMove (v ∷ [])))
  unfolding move_under
  move-raw t = alone-raw rule OneMove v (move-value (stays x t)) (λ z. never (cc)) t
    where
      stays : (y : Read) → OneOf (0 ∷ 1 ∷ 5 ∷ []) (tag_of value.the_type y) → y ≡ move_under rule y
      stays Other h = refl
      stays Invalid h = refl
      stays Pass h = refl
      stays (Move a b) h = absurd (miss (0 ∷ 1 ∷ 5 ∷ []) 3 tt h)
      stays (Handicap n) h = refl
      stays Points h = refl

-- ---- raw values

pub form-unread : (rule : ℕ) (vs : List (List ℕ)) → vs ≡ form_by rule Unread vs
unfolding form_by value_by normal_by
form-unread rule vs = refl

-- ---- none, or several, of a shape that is no set

form-none : (rule : ℕ) (s : Shape) → (s ≡ ManyPoints → ⊥) → [] ≡ form_by rule s []
unfolding form_by value_by normal_by
form-none rule OneMove h = refl
form-none rule OneNumber h = refl
form-none rule ManyPoints h = absurd (h refl)
form-none rule Unread h = refl

form-many : (rule : ℕ) (s : Shape) (v w : List ℕ) (vs : List (List ℕ)) → (s ≡ ManyPoints → ⊥) → v ∷ w ∷ vs ≡ form_by rule s (v ∷ w ∷ vs)
unfolding form_by value_by normal_by
form-many rule OneMove v w vs h = refl
form-many rule OneNumber v w vs h = refl
form-many rule ManyPoints v w vs h = absurd (h refl)
form-many rule Unread v w vs h = refl

module _ (rule : ℕ) (s : Shape) (h : s ≡ ManyPoints → ⊥) {vs : List (List ℕ)} where
  pub length_none : vs ≡ [] → 0 ≡ length (raws_text (form_by rule s vs))
  length_none e = sym none-length ∙ ap boxed (form-none rule s h ∙ ap (form_by rule s) (sym e))

  pub length-many : (v w : List ℕ) (ws : List (List ℕ)) → vs ≡ v ∷ w ∷ ws → {r : ℕ} → r ≡ length (raws_text vs) → r ≡ length (raws_text (form_by rule s vs))
  length-many v w ws e q = q ∙ ap boxed (e ∙ form-many rule s v w ws h ∙ ap (form_by rule s) (sym e))

-- ---- a set

module _ (vs : List (List ℕ)) {r : ℕ} where
  pub set-bad : unmarked Invalid ≡ points_of vs → r ≡ length (raws_text vs) → r ≡ length (raws_text (form_by 0 ManyPoints vs))
  set-bad e q = q ∙ ap boxed (set-raw vs e {v = Invalid} refl (λ (z : Invalid ≡ Points). never (cc)))

  pub set-good : {m : List Bool} → marked m ≡ points_of vs → r ≡ length (raws_text (points_from 0 m)) → r ≡ length (raws_text (form_by 0 ManyPoints vs))
  set-good e q = q ∙ ap boxed (set-points vs e {v = Points} refl refl)

-- ---- identifier and values

boxes-vals : (vs : List (List ℕ)) → vals_text (map placeless_val vs) ≡ raws_text vs
unfolding raws_text
boxes-vals [] = refl
boxes-vals (v ∷ vs) = ap (λ (z : List ℕ). 0x5b ∷ (v ++ (0x5d ∷ z))) (boxes-vals vs)

pub form-length : (s : List ℕ) (rule i k : ℕ) → form_length s rule i k ≡ length_of rule (prop_at s i k)
unfolding form_length prop_at
form-length s rule i k =
    let w : List ℕ = read_identifier (slice i k s) in
    let vs : List (List ℕ) = normal rule w (raws_at s k) in
    let a = length-append w (vals_text (map placeless_val vs) ++ []) in
    let b = length-append (vals_text (map placeless_val vs)) [] in
    let c : length (vals_text (map placeless_val vs)) ≡ length (raws_text vs) = ap length (boxes-vals vs) in
    omega arith

module _ (s : List ℕ) (rule i k : ℕ) where
  pub length-long : text_limit < length s → 0 ≡ property_length s rule i k
  unfolding property_length
  length-long h = rw (lt-leb (length s) text_limit h)

  pub length-past : length s < k → 0 ≡ property_length s rule i k
  unfolding property_length
  length-past h = rw (lt-leb k (length s) h, and-false)

  pub length_before : k < i → 0 ≡ property_length s rule i k
  unfolding property_length
  length_before h = rw (lt-leb i k h, and-false, and-false)

  pub length-there : length s ≤ text_limit → k ≤ length s → i ≤ k → {r : ℕ} → r ≡ form_length s rule i k → r ≡ property_length s rule i k
  unfolding property_length
  length-there a b c e = rw (le-leb (length s) text_limit a, le-leb k (length s) b, le-leb i k c) (e ∙ form-length s rule i k)
