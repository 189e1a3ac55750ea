-- Where no value ends as one that reads as `tt`, both rules of Go write the same. Assumes nothing.
use Rattle.lists.proofs.Prelude.{ℕ, zero, suc, ◌+◌, ◌-◌, ◌/◌, ◌≤◌, ◌<◌, Bool, true, false, ◌&&◌, ◌||◌, List, [], ◌∷◌, ◌++◌, ◌≡◌, refl, sym, ap, ap₂, ◌∙◌, arith, leb, eqb, length, get_or, drop, get_or-take, get_or-drop, length-drop, length-take-le, lt-ltb, le-leb, leb-true, false≢true, and-false, and-true, pick}
use Rattle.lists.proofs.Pick.{pick-elim}
use Rattle.lists.proofs.Tests.{and_both, same_or}
use Rattle.values.specs.Read.{read_from, read_value}
use Rattle.go_points.specs.Area.{letter_of, move_to, move_of}
use Rattle.go_points.specs.declared.Value.{Value}
use Rattle.go_shape.specs.Shape.{shape_of}
use Rattle.go_shape.specs.declared.Shape.{Shape}
use Rattle.go_shape.specs.declared.Shape.TheVariants.{OneMove, OneNumber, ManyPoints, Unread}
use Rattle.go.specs.Normal.{normal_by, normal}
use Rattle.go.specs.Value.{move_under, one_by, unmarked, value_by, go_value}
use Rattle.go.specs.declared.value.GoValue.{GoValue}
use Rattle.parts.specs.Rows.{cut, value_at, values_at}
use Rattle.tables.proofs.Cases.{below_or}
use Rattle.tables.specs.Columns.{parent_at, first_prop_at, prop_count_at, first_val_at, val_count_at, val_from_at, val_to_at}
use Rattle.tables.specs.declared.Counts.{Counts}
use Rattle.fit.proofs.Clauses.{Clauses, value_in}
use Rattle.fit_spans.proofs.Ranges.{gapless-in}
use Rattle.serialize_values.specs.LocalsForm.{raws_text}
use Rattle.serialize_values.proofs.Plain.{corner-byte}
use Rattle.serialize.specs.LocalsWalk.{texts, corner_end, read_name_at, values_text, prop_text, is_kept, kept_text, bad_at, props_text, start_text, ends_before, node_by}

-- a byte that a value ends with which reads as `tt`
abbrev corner_byte : ℕ → Bool
corner_byte b = eqb b 0x74 || eqb b 0x5c

-- of the last byte, or d where there is none: it is such a byte; it is a `t`
abbrev ends_from : Bool → List ℕ → Bool
ends_from d [] = d
ends_from d (b ∷ bs) = ends_from (corner_byte b) bs

abbrev last_from : Bool → List ℕ → Bool
last_from d [] = d
last_from d (b ∷ bs) = last_from (eqb b 0x74) bs

or-first : (x y : Bool) → x || y ≡ false → x ≡ false
or-first true y h = h
or-first false y h = refl

ends_last : (s : List ℕ) (esc d e : Bool) → (e ≡ false → d ≡ false) → ends_from e s ≡ false → last_from d (read_from esc s) ≡ false
unfolding read_from
ends_last [] true d e f h = f h
ends_last [] false d e f h = f h
ends_last (b ∷ bs) true d e f h = ends_last bs false (eqb b 0x74) (corner_byte b) (or-first (eqb b 0x74) (eqb b 0x5c)) h
ends_last (b ∷ bs) false d e f h =
    pick-elim (λ (w : List ℕ). last_from d w ≡ false) (eqb b 0x5c)
    (λ q. ends_last bs true d (corner_byte b) (λ z. absurd (false≢true (sym z ∙ ap (λ (y : Bool). eqb b 0x74 || y) q ∙ or-true (eqb b 0x74)))) h)
    (λ q. ends_last bs false (eqb b 0x74) (corner_byte b) (or-first (eqb b 0x74) (eqb b 0x5c)) h)
  where
    or-true : (x : Bool) → x || true ≡ true
    or-true true = refl
    or-true false = refl

ends_at : (s : List ℕ) (e : Bool) (n : ℕ) → length s ≡ suc n → ends_from e s ≡ corner_byte (get_or s n 0)
ends_at [] e n l = absurd (omega arith)
ends_at (b ∷ []) e zero l = refl
ends_at (b ∷ []) e (suc n) l = absurd (omega arith)
ends_at (b ∷ c ∷ r) e zero l = absurd (omega arith)
ends_at (b ∷ c ∷ r) e (suc n) l = ends_at (c ∷ r) (corner_byte b) n (omega arith)

-- a point under both rules of Go, where its second letter is no `t`
point-calm : (a b : ℕ) → eqb b 0x74 ≡ false → move_under 0 (move_to (letter_of a) (letter_of b)) ≡ move_under 2 (move_to (letter_of a) (letter_of b))
unfolding move_to move_under
point-calm a b h =
    pick-elim (λ (v : Value). move_under 0 v ≡ move_under 2 v) (leb (letter_of a) 51 && leb (letter_of b) 51)
    (λ q.
    let e : eqb (letter_of b) 19 ≡ false = corner-byte b (leb-true (letter_of b) 51 (and_both (leb (letter_of a) 51) (leb (letter_of b) 51) q).1) ∙ h in
    rw (e, and-false))
    (λ q. refl)

move-calm : (w : List ℕ) → last_from false w ≡ false → move_under 0 (move_of w) ≡ move_under 2 (move_of w)
unfolding move_of move_under
move-calm [] h = refl
move-calm (a ∷ []) h = refl
move-calm (a ∷ b ∷ []) h = point-calm a b h
move-calm (a ∷ b ∷ c ∷ r) h = refl

value-calm : (s : List ℕ) → ends_from false s ≡ false → move_under 0 (move_of (read_value s)) ≡ move_under 2 (move_of (read_value s))
value-calm s h = move-calm (read_value s) (ends_last s false false false (λ e. e) h)

-- values whose move is the same under both rules
abbrev Calm : List (List ℕ) → Type 0
Calm vs = one_by (λ v. move_under 0 (move_of (read_value v))) vs ≡ one_by (λ v. move_under 2 (move_of (read_value v))) vs

shape-calm : (s : Shape) (vs : List (List ℕ)) → Calm vs → value_by 0 s vs ≡ value_by 2 s vs
unfolding value_by
shape-calm OneMove vs h = ap unmarked h
shape-calm OneNumber vs h = refl
shape-calm ManyPoints vs h = refl
shape-calm Unread vs h = refl

normal-calm : (w : List ℕ) (vs : List (List ℕ)) → Calm vs → normal 0 w vs ≡ normal 2 w vs
unfolding normal go_value
normal-calm w vs h = ap (λ (g : GoValue). normal_by g.value g.marks vs) (shape-calm (shape_of w) vs h)

texts-calm : (f g : ℕ → List ℕ) (m : ℕ) → ((i : ℕ) → i < m → f i ≡ g i) → texts f m ≡ texts g m
unfolding texts
texts-calm f g zero h = refl
texts-calm f g (suc m) h = ap₂ (λ (x y : List ℕ). x ++ y) (texts-calm f g m (λ i l. h i (omega arith))) (h m (omega arith))

-- a value of more than five bytes reads as more than two
read_short : (s : List ℕ) (esc : Bool) → length s ≤ length (read_from esc s) + length (read_from esc s) + 1
unfolding read_from
read_short [] true = omega arith
read_short [] false = omega arith
read_short (b ∷ bs) true = let h = read_short bs false in omega arith
read_short (b ∷ []) false = pick-elim (λ (w : List ℕ). 1 ≤ length w + length w + 1) (eqb b 0x5c) (λ q. omega arith) (λ q. omega arith)
read_short (b ∷ c ∷ r) false =
    pick-elim (λ (w : List ℕ). suc (suc (length r)) ≤ length w + length w + 1) (eqb b 0x5c)
    (λ q. let h = read_short r false in omega arith)
    (λ q. let h = read_short (c ∷ r) false in omega arith)

move-long : (w : List ℕ) → 2 < length w → move_under 0 (move_of w) ≡ move_under 2 (move_of w)
unfolding move_of move_under
move-long [] h = absurd (omega arith)
move-long (a ∷ []) h = absurd (omega arith)
move-long (a ∷ b ∷ []) h = absurd (omega arith)
move-long (a ∷ b ∷ c ∷ r) h = refl

-- by its length, or by its last byte
seen-calm : (s : List ℕ) → leb (length s) 5 && ends_from false s ≡ false → move_under 0 (move_of (read_value s)) ≡ move_under 2 (move_of (read_value s))
seen-calm s h =
    below_or 5 (length s)
    (λ l. move-long (read_value s) (let r = read_short s false in omega arith))
    (λ l. value-calm s (ap (λ (x : Bool). x && ends_from false s) (sym (le-leb (length s) 5 l)) ∙ h))

-- ---- tables that fit

module _ {t : List ℕ} {c : Counts} {tr nd pr vl : List ℕ} (f : Clauses t c tr nd pr vl) (calm : (v : ℕ) → v < c.values → corner_end t vl v ≡ false) where
  row_calm : (v : ℕ) → v < c.values → leb (length (value_at t vl v)) 5 && ends_from false (value_at t vl v) ≡ false
  unfolding value_at
  row_calm v h =
      let i = value_in f v h in
      let a : ℕ = val_from_at vl v in
      let e : ℕ = val_to_at vl v in
      let d : length (drop a t) ≡ length t - a = length-drop a t in
      let m : length (cut t a e) ≡ e - a = length-take-le (e - a) (drop a t) (omega (arith, i)) in
      rw (lt-ltb v (length vl / 2) (omega (arith, f.held.values)))
      (below_or a e
      (λ l.
      let n : length (cut t a e) ≡ suc (e - a - 1) = omega arith in
      let o : a + (e - a - 1) ≡ e - 1 = omega arith in
      ap₂ (λ (k : ℕ) (x : Bool). leb k 5 && x) m
      (ends_at (cut t a e) false (e - a - 1) n
      ∙ ap corner_byte (get_or-take (e - a) (drop a t) (e - a - 1) 0 (omega arith) ∙ get_or-drop a t (e - a - 1) 0 ∙ ap (λ (z : ℕ). get_or t z 0) o))
      ∙ calm v h)
      (λ l. let z : e - a ≡ 0 = omega arith in rw z))

  values-calm : (first count : ℕ) → first + count ≤ c.values → Calm (values_at t vl first count)
  unfolding values_at
  values-calm first zero h = refl
  values-calm first (suc zero) h = seen-calm (value_at t vl first) (row_calm first (omega arith))
  values-calm first (suc (suc n)) h = refl

  prop-calm : (p : ℕ) → p < c.properties → prop_text t pr vl 0 p ≡ prop_text t pr vl 2 p
  unfolding prop_text values_text
  prop-calm p h =
      ap (λ (z : List (List ℕ)). read_name_at t pr p ++ raws_text z)
      (normal-calm (read_name_at t pr p) (values_at t vl (first_val_at pr p) (val_count_at pr p))
      (values-calm (first_val_at pr p) (val_count_at pr p) (gapless-in (first_val_at pr) (val_count_at pr) c.properties c.values f.prop-ranges p h)))

  kept-calm : (mends bad : Bool) (p : ℕ) → p < c.properties → kept_text mends bad t pr vl 0 p ≡ kept_text mends bad t pr vl 2 p
  unfolding kept_text
  kept-calm mends bad p h = ap (λ (z : List ℕ). pick (is_kept mends bad (read_name_at t pr p)) z []) (prop-calm p h)

  pub node-calm : (mends : Bool) (k : ℕ) → k < c.nodes → node_by mends t nd pr vl 0 k ≡ node_by mends t nd pr vl 2 k
  unfolding node_by props_text
  node-calm mends k h =
      let r : first_prop_at nd k + prop_count_at nd k ≤ c.properties = gapless-in (first_prop_at nd) (prop_count_at nd) c.nodes c.properties f.node-ranges k h in
      let bad : Bool = bad_at mends t nd pr vl k in
      ap (λ (z : List ℕ). ends_before nd k (parent_at nd k) ++ (start_text nd k ++ (0x3b ∷ z)))
      (texts-calm (λ i. kept_text mends bad t pr vl 0 (first_prop_at nd k + i)) (λ i. kept_text mends bad t pr vl 2 (first_prop_at nd k + i)) (prop_count_at nd k)
      (λ i l. kept-calm mends bad (first_prop_at nd k + i) (omega arith)))

-- ---- the search

module _ (t vl : List ℕ) (v : ℕ) where
  pub corner-other : {e : ℕ} → e ≡ val_to_at vl v → corner_byte (get_or t (e - 1) 0) ≡ false → false ≡ corner_end t vl v
  corner-other q h =
      let b : corner_byte (get_or t (val_to_at vl v - 1) 0) ≡ false = ap (λ (z : ℕ). corner_byte (get_or t (z - 1) 0)) (sym q) ∙ h in
      sym (ap (λ (x : Bool). leb (val_to_at vl v - val_from_at vl v) 5 && x) b ∙ and-false (leb (val_to_at vl v - val_from_at vl v) 5))

  pub corner-seen : {a e : ℕ} → a ≡ val_from_at vl v → e ≡ val_to_at vl v → corner_byte (get_or t (e - 1) 0) ≡ true → leb (e - a) 5 ≡ corner_end t vl v
  corner-seen p q h =
      let b : corner_byte (get_or t (val_to_at vl v - 1) 0) ≡ true = ap (λ (z : ℕ). corner_byte (get_or t (z - 1) 0)) (sym q) ∙ h in
      ap₂ (λ (x y : ℕ). leb (y - x) 5) p q ∙ sym (ap (λ (x : Bool). leb (val_to_at vl v - val_from_at vl v) 5 && x) b ∙ and-true (leb (val_to_at vl v - val_from_at vl v) 5))

  pub corners-more : ((i : ℕ) → i < v → corner_end t vl i ≡ false) → corner_end t vl v ≡ false → (i : ℕ) → i < v + 1 → corner_end t vl i ≡ false
  corners-more f h i l = same_or i v (λ e. ap (corner_end t vl) e ∙ h) (λ e. f i (omega arith))
