-- Values that are written as they are raw: one point, in two letters. Assumes nothing.
use Rattle.lists.proofs.Prelude.{ℕ, zero, suc, ◌+◌, ◌*◌, ◌/◌, ◌%◌, ◌-◌, ◌≤◌, ◌<◌, ◌≡◌, refl, sym, ap, ap₂, ◌∙◌, subst, Bool, true, false, ◌&&◌, List, [], ◌∷◌, arith, eqb, leb, length, get_or, drop, set, length-set, replicate, length-replicate, leb-true, drop-cons, and-false, eq-eqb, ne_eqb}
use Rattle.lists.proofs.Pick.{pick-elim}
use Rattle.lists.proofs.Tests.{and_both, same_or}
use Rattle.values.specs.Read.{read_value}
use Rattle.go_points.specs.Area.{letter_of, letter, move_of}
use Rattle.go_points.proofs.Letters.{move-back}
use Rattle.go.specs.Normal.{point_text, points_from, normal_by}
use Rattle.go.specs.Value.{move_under, no_marks, marked, points_of, value_by}
use Rattle.go.specs.declared.value.GoValue.{GoValue}
use Rattle.go.proofs.Listed.{points-back}
use Rattle.go_shape.specs.declared.Shape.{Shape}
use Rattle.go_shape.specs.declared.Shape.TheVariants.{OneMove, ManyPoints}
use Rattle.go_points.specs.declared.Value.{Value}
use Rattle.go_points.specs.declared.Value.TheVariants.{Move}
use Rattle.parts.specs.Rows.{value_at, values_at}
use Rattle.serialize_values.specs.LocalsForm.{form_by}
use Rattle.serialize_values.proofs.Boxed.{letter-low, letter-high}
use Rattle.serialize_values.proofs.Forms.{set-form}

-- the letter of a letter's coordinate
letter-forth : (b : ℕ) → letter_of b ≤ 51 → letter (letter_of b) ≡ b
unfolding letter_of
letter-forth b =
    pick-elim (λ (z : ℕ). z ≤ 51 → letter z ≡ b) (leb 0x61 b && leb b 0x7a)
    (λ e h.
    let t = and_both (leb 0x61 b) (leb b 0x7a) e in
    let p = leb-true 0x61 b t.0 in
    let q = leb-true b 0x7a t.1 in
    let z : 0x61 + (b - 0x61) ≡ b = omega arith in
    sym (letter-low (b - 0x61) (omega arith)) ∙ z)
    (λ n.
    pick-elim (λ (z : ℕ). z ≤ 51 → letter z ≡ b) (leb 0x41 b && leb b 0x5a)
    (λ e h.
    let t = and_both (leb 0x41 b) (leb b 0x5a) e in
    let p = leb-true 0x41 b t.0 in
    let q = leb-true b 0x5a t.1 in
    let z : 0x41 + (b - 0x41 + 26 - 26) ≡ b = omega arith in
    sym (letter-high (b - 0x41 + 26) (omega arith)) ∙ z)
    (λ e h. absurd (omega arith)))

-- the coordinate 19 is the letter `t`
pub corner-byte : (b : ℕ) → letter_of b ≤ 51 → eqb (letter_of b) 19 ≡ eqb b 0x74
unfolding letter_of letter
corner-byte b h =
    same_or (letter_of b) 19
    (λ e. let f : b ≡ 0x74 = sym (letter-forth b h) ∙ ap letter e in rw (eq-eqb (letter_of b) 19 e, eq-eqb b 0x74 f))
    (λ e. rw (ne_eqb (letter_of b) 19 e, ne_eqb b 0x74 (λ f. e (ap letter_of f))))

as-letters : (v : List ℕ) → length v ≡ 2 → letter_of (get_or v 0 0) ≤ 51 → letter_of (get_or v 1 0) ≤ 51 → letter (letter_of (get_or v 0 0)) ∷ letter (letter_of (get_or v 1 0)) ∷ [] ≡ v
as-letters [] l p q = absurd (omega arith)
as-letters (a ∷ []) l p q = absurd (omega arith)
as-letters (a ∷ b ∷ []) l p q = ap₂ (λ (m n : ℕ). m ∷ n ∷ []) (letter-forth a p) (letter-forth b q)
as-letters (a ∷ b ∷ c ∷ r) l p q = absurd (omega arith)

-- ---- one mark is listed as its point

none-listed : (k n : ℕ) → points_from k (replicate n false) ≡ []
unfolding points_from
none-listed k zero = refl
none-listed k (suc n) = none-listed (suc k) n

one-listed : (k n i : ℕ) → i < n → points_from k (set (replicate n false) i true) ≡ point_text (k + i) ∷ []
unfolding points_from
one-listed k zero i h = absurd (omega arith)
one-listed k (suc n) zero h = let e : k ≡ k + 0 = omega arith in ap₂ (λ (a : ℕ) (r : List (List ℕ)). point_text a ∷ r) e (none-listed (suc k) n)
one-listed k (suc n) (suc i) h = let e : suc k + i ≡ k + suc i = omega arith in one-listed (suc k) n i (omega arith) ∙ ap (λ (a : ℕ). point_text a ∷ []) e

listed-form : (vs : List (List ℕ)) (ms : List Bool) → length ms ≡ 2704 → points_from 0 ms ≡ vs → vs ≡ form_by 0 ManyPoints vs
unfolding form_by value_by normal_by
listed-form vs ms l e =
    let g : points_of vs ≡ marked ms = ap points_of (sym e) ∙ points-back ms l in
    sym e ∙ ap (λ (x : GoValue). normal_by x.value x.marks vs) (sym g)

one_form : (n i : ℕ) → n ≡ 2704 → i < n → point_text i ∷ [] ≡ form_by 0 ManyPoints (point_text i ∷ [])
one_form n i e h =
    let z : 0 + i ≡ i = omega arith in
    listed-form (point_text i ∷ []) (set (replicate n false) i true) (length-set (replicate n false) i true ∙ length-replicate n false ∙ e)
    (one-listed 0 n i h ∙ ap (λ (a : ℕ). point_text a ∷ []) z)

-- ---- a point as a move, and as a set

module _ (v : List ℕ) (l : length v ≡ 2) {x y : ℕ} (ex : x ≡ letter_of (get_or v 0 0)) (ey : y ≡ letter_of (get_or v 1 0)) (p : x ≤ 51) (q : y ≤ 51) where
  letters : letter x ∷ letter y ∷ [] ≡ v
  letters = ap₂ (λ (m n : ℕ). letter m ∷ letter n ∷ []) ex ey ∙ as-letters v l (subst (λ (z : ℕ). z ≤ 51) ex p) (subst (λ (z : ℕ). z ≤ 51) ey q)

  -- of two letters that are not `tt`
  pub corner-none : eqb (get_or v 0 0) 0x74 && eqb (get_or v 1 0) 0x74 ≡ false → eqb x 19 && eqb y 19 ≡ false
  corner-none h =
      ap₂ (λ (m n : ℕ). eqb m 19 && eqb n 19) ex ey
      ∙ ap₂ (λ (a b : Bool). a && b) (corner-byte (get_or v 0 0) (subst (λ (z : ℕ). z ≤ 51) ex p)) (corner-byte (get_or v 1 0) (subst (λ (z : ℕ). z ≤ 51) ey q))
      ∙ h

  -- a point that is not `tt` is a point under every rule
  point-played : eqb x 19 && eqb y 19 ≡ false → (rule : ℕ) → Move x y ≡ move_under rule (Move x y)
  unfolding move_under
  point-played h rule = rw (h, and-false)

  pub plain-move : {s : Shape} → s ≡ OneMove → eqb x 19 && eqb y 19 ≡ false → (rule : ℕ) → v ∷ [] ≡ form_by rule s (v ∷ [])
  unfolding form_by value_by normal_by
  plain-move e h rule =
      let m : Move x y ≡ move_of (read_value v) = sym (move-back x y (omega arith) (omega arith)) ∙ ap (λ (z : List ℕ). move_of (read_value z)) letters in
      ap (λ (z : List ℕ). z ∷ []) (sym letters)
      ∙ ap (λ (z : Value). normal_by z no_marks (v ∷ [])) (point-played h rule ∙ ap (move_under rule) m)
      ∙ ap (λ (z : Shape). form_by rule z (v ∷ [])) (sym e)

  pub plain-set : {s : Shape} → s ≡ ManyPoints → (rule : ℕ) → v ∷ [] ≡ form_by rule s (v ∷ [])
  plain-set e rule =
      let a : (52 * x + y) / 52 ≡ x = omega arith in
      let b : (52 * x + y) % 52 ≡ y = omega arith in
      let t : point_text (52 * x + y) ≡ v = ap₂ (λ (m n : ℕ). letter m ∷ letter n ∷ []) a b ∙ letters in
      subst (λ (z : List ℕ). z ∷ [] ≡ form_by 0 ManyPoints (z ∷ [])) t (one_form 2704 (52 * x + y) refl (omega arith)) ∙ set-form rule (v ∷ []) ∙ ap (λ (z : Shape). form_by rule z (v ∷ [])) (sym e)

-- the only value of a property
pub one_value : (text vals : List ℕ) (first count : ℕ) {v : List ℕ} → count ≡ 1 → v ≡ value_at text vals (first + 0) → v ∷ [] ≡ values_at text vals first count
unfolding values_at
one_value text vals first count h e =
    let z : first + 0 ≡ first = omega arith in
    ap (λ (u : List ℕ). u ∷ []) (e ∙ ap (value_at text vals) z) ∙ sym (ap (values_at text vals first) h)

-- ---- places that are not marked

points-pass : (marks : List Bool) (i : ℕ) → i < length marks → get_or marks i false ≡ false → points_from i (drop i marks) ≡ points_from (suc i) (drop (suc i) marks)
unfolding points_from
points-pass marks i l h = rw (drop-cons marks i false l, h)

pub points-skip : (n : ℕ) (marks : List Bool) (i : ℕ) → i + n ≤ length marks → ((k : ℕ) → k < n → get_or marks (i + k) false ≡ false)
    → points_from i (drop i marks) ≡ points_from (i + n) (drop (i + n) marks)
points-skip zero marks i l h = let e : i ≡ i + 0 = omega arith in ap (λ (j : ℕ). points_from j (drop j marks)) e
points-skip (suc n) marks i l h =
    let e : suc i + n ≡ i + suc n = omega arith in
    let z : i + 0 ≡ i = omega arith in
    points-pass marks i (omega arith) (ap (λ (j : ℕ). get_or marks j false) (sym z) ∙ h 0 (omega arith))
    ∙ points-skip n marks (suc i) (omega arith) (λ k m. let w : suc i + k ≡ i + suc k = omega arith in ap (λ (j : ℕ). get_or marks j false) w ∙ h (suc k) (omega arith))
    ∙ ap (λ (j : ℕ). points_from j (drop j marks)) e
