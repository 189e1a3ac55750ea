-- Raw values by their rows: one of them, and all that are left. Assumes nothing.
use Rattle.lists.proofs.Prelude.{ℕ, suc, ◌+◌, ◌-◌, ◌*◌, ◌/◌, ◌≤◌, ◌<◌, min, ◌≡◌, refl, sym, ap, ap₂, ◌∙◌, Bool, true, false, List, [], ◌∷◌, arith, leb, length, get_or, take, drop, length-drop, take_all, leb-true, leb-false, lt-ltb, le-ltb}
use Rattle.parts.specs.Rows.{cut, value_at, values_at}

-- a span that ends beyond the text ends with it
cut-within : (text : List ℕ) (from to : ℕ) → cut text from to ≡ cut text from (min to (length text))
cut-within text from to = go (leb to (length text)) refl
  where
    go : (t : Bool) → leb to (length text) ≡ t → cut text from to ≡ cut text from (min to (length text))
    go true e = let p = leb-true to (length text) e in let q : to ≡ min to (length text) = omega arith in ap (cut text from) q
    go false e =
        let p = leb-false to (length text) e in
        let l = length-drop from text in
        take_all (to - from) (drop from text) (omega arith) ∙ sym (take_all (min to (length text) - from) (drop from text) (omega arith))

-- a span that starts behind its end is as empty as one that starts there
cut-start : (text : List ℕ) (from to : ℕ) → cut text (min from to) to ≡ cut text from to
cut-start text from to = go (leb from to) refl
  where
    go : (t : Bool) → leb from to ≡ t → cut text (min from to) to ≡ cut text from to
    go true e = let p = leb-true from to e in let q : min from to ≡ from = omega arith in ap (λ (n : ℕ). cut text n to) q
    go false e =
        let p = leb-false from to e in
        let q : to - min from to ≡ 0 = omega arith in
        let r : 0 ≡ to - from = omega arith in
        ap (λ (n : ℕ). take n (drop (min from to) text)) q ∙ ap (λ (n : ℕ). take n (drop from text)) r

module _ (text vals : List ℕ) (v : ℕ) where
  pub value_none : length vals / 2 ≤ v → [] ≡ value_at text vals v
  unfolding value_at
  value_none h = rw (le-ltb v (length vals / 2) h)

  module _ {from to : ℕ} (h : v < length vals / 2) (p : from ≡ get_or vals (v * 2) 0) (q : to ≡ get_or vals (v * 2 + 1) 0) where
    value_there : cut text from to ≡ value_at text vals v
    unfolding value_at
    value_there = rw (lt-ltb v (length vals / 2) h, ← p, ← q)

    pub value-part : {start end : ℕ} → end ≡ min to (length text) → start ≡ min from end → cut text start end ≡ value_at text vals v
    value-part {start} {end} r s = ap (λ (n : ℕ). cut text n end) s ∙ cut-start text from end ∙ ap (cut text from) r ∙ sym (cut-within text from to) ∙ value_there

module _ (text vals : List ℕ) (first : ℕ) where
  pub values-none : [] ≡ values_at text vals first 0
  unfolding values_at
  values-none = refl

  -- a row that is there
  pub values-more : (n : ℕ) → first < length vals / 2 → cut text (get_or vals (first * 2) 0) (get_or vals (first * 2 + 1) 0) ∷ values_at text vals (suc first) n ≡ values_at text vals first (suc n)
  unfolding value_at values_at
  values-more n h = rw (lt-ltb first (length vals / 2) h)

  -- the values from the nth on
  pub values-next : (count n : ℕ) → n < count
      → values_at text vals (first + n) (count - n) ≡ value_at text vals (first + n) ∷ values_at text vals (first + (n + 1)) (count - (n + 1))
  unfolding values_at
  values-next count n h =
      let e : count - n ≡ suc (count - (n + 1)) = omega arith in
      let f : suc (first + n) ≡ first + (n + 1) = omega arith in
      ap (values_at text vals (first + n)) e ∙ ap (λ (k : ℕ). value_at text vals (first + n) ∷ values_at text vals k (count - (n + 1))) f

  pub values-all : (count : ℕ) → values_at text vals first count ≡ values_at text vals (first + 0) (count - 0)
  values-all count = let e : first ≡ first + 0 = omega arith in let f : count ≡ count - 0 = omega arith in ap₂ (values_at text vals) e f

  pub values-end : (count n : ℕ) → count ≤ n → values_at text vals (first + n) (count - n) ≡ []
  unfolding values_at
  values-end count n h = let e : count - n ≡ 0 = omega arith in ap (values_at text vals (first + n)) e
