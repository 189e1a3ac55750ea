-- One correction more of a feed, as the code reads it. Assumes nothing.
use Rattle.lists.proofs.Prelude.{ℕ, zero, suc, ◌+◌, ◌-◌, ◌≤◌, ◌<◌, ◌≡◌, refl, sym, ap, ap₂, ◌∙◌, Bool, false, List, [], ◌∷◌, arith, add-one, length, eqb, lt-ltb, le-ltb, le-leb, lt-leb, eq-eqb, ne_eqb, pick}
use Rattle.feed_numerals.specs.Numeral.{numeral_at}
use Rattle.feed.specs.Feed.{Entry, Listing, sized, with_number, entry_at, followed, entries_from, entries_by, listing}
use Rattle.feed.specs.Find.{found_in}
use Rattle.std.specs.Prelude.{Option, Some, None}

-- ---- the correction at a place

module _ (w : List ℕ) (low p : ℕ) where
  pub next-unnumbered : numeral_at w p ≡ None → None ≡ entry_at w low p
  unfolding entry_at
  next-unnumbered e = sym (ap (with_number w low p) e)

  module _ (v n : ℕ) (e : numeral_at w p ≡ Some (v, n)) where
    pub next-falling : v < low → None ≡ entry_at w low p
    unfolding entry_at
    next-falling h = sym (ap (with_number w low p) e ∙ ap (λ (b : Bool). pick b None (sized w v (p + n) (numeral_at w (p + n)))) (lt-ltb v low h))

    next-sized : low ≤ v → entry_at w low p ≡ sized w v (p + n) (numeral_at w (p + n))
    unfolding entry_at
    next-sized h = ap (with_number w low p) e ∙ ap (λ (b : Bool). pick b None (sized w v (p + n) (numeral_at w (p + n)))) (le-ltb v low h)

    pub next-unsized : low ≤ v → numeral_at w (p + n) ≡ None → None ≡ entry_at w low p
    next-unsized h f = sym (next-sized h ∙ ap (sized w v (p + n)) f)

    module _ (h : low ≤ v) (l m : ℕ) (f : numeral_at w (p + n) ≡ Some (l, m)) where
      pub next-short : length w < p + n + m + l → None ≡ entry_at w low p
      next-short k =
          sym (next-sized h ∙ ap (sized w v (p + n)) f ∙ ap (λ (b : Bool). pick b (Some (v, p + n + m, p + n + m + l)) None) (lt-leb (p + n + m + l) (length w) k))

      pub next_one : p + n + m + l ≤ length w → Some (v, p + n + m, p + n + m + l) ≡ entry_at w low p
      next_one k =
          sym (next-sized h ∙ ap (sized w v (p + n)) f ∙ ap (λ (b : Bool). pick b (Some (v, p + n + m, p + n + m + l)) None) (le-leb (p + n + m + l) (length w) k))

-- ---- the corrections from a place on

abbrev pub none-listed : Bool → Listing
none-listed b = record { entries = []; whole = b }

abbrev pub one-listed : (v a e : ℕ) → Listing → Listing
one-listed v a e r = record { entries = record { value = v; from = a; to = e } ∷ r.entries; whole = r.whole }

module _ (w : List ℕ) where
  pub listed-end : (left low at : ℕ) → left ≡ 0 → entries_from w left low at ≡ none-listed (eqb at (length w))
  unfolding entries_from
  listed-end left low at e = ap (λ (c : ℕ). entries_from w c low at) e

  pub listed-fault : (left low at : ℕ) → 0 < left → entry_at w low at ≡ None → entries_from w left low at ≡ none-listed false
  unfolding entries_from
  listed-fault zero low at h e = absurd (omega arith)
  listed-fault (suc c) low at h e = ap (λ (x : Option (ℕ × ℕ × ℕ)). followed x (λ l q. entries_from w c l q)) e

  pub listed-one : (left low at v a e : ℕ) → 0 < left → entry_at w low at ≡ Some (v, a, e) → entries_from w left low at ≡ one-listed v a e (entries_from w (left - 1) (v + 1) e)
  unfolding entries_from
  listed-one zero low at v a e h k = absurd (omega arith)
  listed-one (suc c) low at v a e h k =
      let x : c ≡ suc c - 1 = omega arith in
      ap (λ (y : Option (ℕ × ℕ × ℕ)). followed y (λ l q. entries_from w c l q)) k ∙ ap₂ (λ (d l : ℕ). one-listed v a e (entries_from w d l e)) x (sym (add-one v))

  pub listing-fault : numeral_at w 0 ≡ None → listing w ≡ none-listed false
  unfolding listing
  listing-fault e = ap (entries_by w) e

  pub listing-count : (c n : ℕ) → numeral_at w 0 ≡ Some (c, n) → listing w ≡ entries_from w c 0 n
  unfolding listing
  listing-count c n e = ap (entries_by w) e

  -- where k of `count` corrections are read
  pub listing-begin : (count n : ℕ) → numeral_at w 0 ≡ Some (count, n) → listing w ≡ entries_from w (count - 0) 0 n
  listing-begin count n e =
      let z : count ≡ count - 0 = omega arith in
      listing-count count n e ∙ ap (λ (d : ℕ). entries_from w d 0 n) z

  pub listed-next : (count k low at v a e : ℕ) → k < count → entry_at w low at ≡ Some (v, a, e)
      → entries_from w (count - k) low at ≡ one-listed v a e (entries_from w (count - (k + 1)) (v + 1) e)
  listed-next count k low at v a e h q =
      let p : 0 < count - k = omega arith in
      let z : count - k - 1 ≡ count - (k + 1) = omega arith in
      listed-one (count - k) low at v a e p q ∙ ap (λ (d : ℕ). one-listed v a e (entries_from w d (v + 1) e)) z

-- ---- a value among them

pub found_none : (k : ℕ) → found_in [] k ≡ None
unfolding found_in
found_none k = refl

module _ (v a e k : ℕ) (xs : List Entry) where
  pub found_here : v ≡ k → found_in (record { value = v; from = a; to = e } ∷ xs) k ≡ Some (a, e)
  unfolding found_in
  found_here h = ap (λ (b : Bool). pick b (Some (a, e)) (found_in xs k)) (eq-eqb v k h)

  pub found-later : (v ≡ k → ⊥) → found_in (record { value = v; from = a; to = e } ∷ xs) k ≡ found_in xs k
  unfolding found_in
  found-later h = ap (λ (b : Bool). pick b (Some (a, e)) (found_in xs k)) (ne_eqb v k h)
