-- Values in their brackets, one after another. Assumes nothing.
use Rattle.lists.proofs.Prelude.{ℕ, suc, ◌+◌, ◌^◌, ◌≤◌, ◌<◌, ◌-◌, ◌≡◌, refl, sym, ap, ◌∙◌, Bool, true, false, List, [], ◌∷◌, ◌++◌, append_assoc, add-one, arith, length, get_or, set, drop, drop_of_length-le, drop-cons, lt-ltb, le-ltb, pick}
use Rattle.store_bytes.specs.LocalsWrote.{Wrote}
use Rattle.store_bytes.proofs.Written.{wrote-is}
use Rattle.go_points.specs.Area.{letter}
use Rattle.go.specs.Normal.{point_text, points_from}
use Rattle.parts.specs.Rows.{value_at, values_at}
use Rattle.parts.proofs.Valued.{values-all, values-next, values-end}
use Rattle.serialize_values.specs.LocalsForm.{raws_text}
use Rattle.serialize_values.proofs.Writing.{writing-first, writing-is, writing-next, writing-last}

pub boxes-one : (v : List ℕ) → raws_text (v ∷ []) ≡ 0x5b ∷ (v ++ (0x5d ∷ []))
unfolding raws_text
boxes-one v = refl

pub boxes-none : raws_text [] ≡ []
unfolding raws_text
boxes-none = refl

pub boxes-cons : (v : List ℕ) (vs : List (List ℕ)) → raws_text (v ∷ vs) ≡ raws_text (v ∷ []) ++ raws_text vs
unfolding raws_text
boxes-cons v vs = ap (λ (z : List ℕ). 0x5b ∷ z) (sym (append_assoc v (0x5d ∷ []) (raws_text vs)))

pub box-wrote : (v : List ℕ) {o : List ℕ} {at : ℕ} {o1 : List ℕ} {r1 : ℕ} {o2 : List ℕ} {r2 : ℕ} {o3 : List ℕ} {r3 : ℕ} → length o < 2 ^ 64 → at < 2 ^ 64
    → Wrote (0x5b ∷ []) o at o1 r1 → Wrote v o1 r1 o2 r2 → Wrote (0x5d ∷ []) o2 r2 o3 r3 → Wrote (raws_text (v ∷ [])) o at o3 r3
box-wrote v s b x y z = writing-last z (writing-next y (writing-next x (writing-is (boxes-one v) (writing-first (raws_text (v ∷ [])) _ _ s b))))

-- a value of two bytes in its brackets, byte by byte
pub pair-wrote : (v out : List ℕ) (at : ℕ) → length v ≡ 2 → at + 4 ≤ length out → length out < 2 ^ 64
    → Wrote (raws_text (v ∷ [])) out at (set (set (set (set out at 0x5b) (at + 1) (get_or v 0 0)) (at + 2) (get_or v 1 0)) (at + 3) 0x5d) (at + 4)
unfolding raws_text
pair-wrote [] out at l h s = absurd (omega arith)
pair-wrote (a ∷ []) out at l h s = absurd (omega arith)
pair-wrote (a ∷ b ∷ []) out at l h s =
    let e : at + 1 ≡ suc at = omega arith in
    let f : at + 2 ≡ suc (suc at) = omega arith in
    let g : at + 3 ≡ suc (suc (suc at)) = omega arith in
    record {
      place = omega arith;
      bytes =
          ap (λ (n : ℕ). set (set (set (set out at 0x5b) n a) (at + 2) b) (at + 3) 0x5d) e
          ∙ ap (λ (n : ℕ). set (set (set (set out at 0x5b) (suc at) a) n b) (at + 3) 0x5d) f
          ∙ ap (λ (n : ℕ). set (set (set (set out at 0x5b) (suc at) a) (suc (suc at)) b) n 0x5d) g;
    }
pair-wrote (a ∷ b ∷ c ∷ r) out at l h s = absurd (omega arith)

-- ---- raw values

module _ (text vals : List ℕ) (first count : ℕ) where
  pub raw-all : raws_text (values_at text vals first count) ≡ raws_text (values_at text vals (first + 0) (count - 0))
  raw-all = ap raws_text (values-all text vals first count)

  pub raw-next : (n : ℕ) → n < count
      → {v : List ℕ} → v ≡ value_at text vals (first + n) → raws_text (values_at text vals (first + n) (count - n)) ≡ raws_text (v ∷ []) ++ raws_text (values_at text vals (first + (n + 1)) (count - (n + 1)))
  raw-next n h e =
      let r : List (List ℕ) = values_at text vals (first + (n + 1)) (count - (n + 1)) in
      ap raws_text (values-next text vals first count n h ∙ ap (λ (z : List ℕ). z ∷ r) (sym e)) ∙ boxes-cons _ r

  pub raw-end : (n : ℕ) → count ≤ n → raws_text (values_at text vals (first + n) (count - n)) ≡ []
  raw-end n h = ap raws_text (values-end text vals first count n h) ∙ boxes-none

-- ---- points

pub letter-low : (n : ℕ) → n < 26 → 0x61 + n ≡ letter n
unfolding letter
letter-low n h = rw (lt-ltb n 26 h)

pub letter-high : (n : ℕ) → 26 ≤ n → 0x41 + (n - 26) ≡ letter n
unfolding letter
letter-high n h = rw (le-ltb n 26 h)

pub point-wrote : (x y : ℕ) {a b : ℕ} {o : List ℕ} {at : ℕ} {o1 : List ℕ} {r1 : ℕ} {o2 : List ℕ} {r2 : ℕ} {o3 : List ℕ} {r3 : ℕ} {o4 : List ℕ} {r4 : ℕ} → length o < 2 ^ 64 → at < 2 ^ 64 → a ≡ letter x → b ≡ letter y
    → Wrote (0x5b ∷ []) o at o1 r1 → Wrote (a ∷ []) o1 r1 o2 r2 → Wrote (b ∷ []) o2 r2 o3 r3 → Wrote (0x5d ∷ []) o3 r3 o4 r4 → Wrote (raws_text ((letter x ∷ letter y ∷ []) ∷ [])) o at o4 r4
point-wrote x y s l ea eb p q r z =
    let w : List ℕ = raws_text ((letter x ∷ letter y ∷ []) ∷ []) in
    writing-last z
    (writing-next (wrote-is (ap (λ (n : ℕ). n ∷ []) eb) r)
    (writing-next (wrote-is (ap (λ (n : ℕ). n ∷ []) ea) q) (writing-next p (writing-is (boxes-one (letter x ∷ letter y ∷ [])) (writing-first w _ _ s l)))))

module _ (i : ℕ) {mark : Bool} where
  pub marked-point : mark ≡ true → raws_text (point_text i ∷ []) ≡ raws_text (pick mark (point_text i ∷ []) [])
  marked-point h = ap (λ (m : Bool). raws_text (pick m (point_text i ∷ []) [])) (sym h)

  pub unmarked-point : mark ≡ false → [] ≡ raws_text (pick mark (point_text i ∷ []) [])
  unmarked-point h = sym boxes-none ∙ ap (λ (m : Bool). raws_text (pick m (point_text i ∷ []) [])) (sym h)

module _ (marks : List Bool) where
  pub points-next : (i : ℕ) → i < length marks
      → raws_text (points_from i (drop i marks)) ≡ raws_text (pick (get_or marks i false) (point_text i ∷ []) []) ++ raws_text (points_from (i + 1) (drop (i + 1) marks))
  unfolding points_from raws_text
  points-next i h = rw (drop-cons marks i false h, add-one) (go (get_or marks i false))
    where
      go : (m : Bool) → (let r = points_from (suc i) (drop (suc i) marks) in raws_text (pick m (point_text i ∷ r) r) ≡ raws_text (pick m (point_text i ∷ []) []) ++ raws_text r)
      go true = boxes-cons (point_text i) (points_from (suc i) (drop (suc i) marks))
      go false = refl

  pub points-end : (i : ℕ) → length marks ≤ i → raws_text (points_from i (drop i marks)) ≡ []
  unfolding points_from raws_text
  points-end i h = rw (drop_of_length-le marks h)
