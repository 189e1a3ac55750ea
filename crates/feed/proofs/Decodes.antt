-- What is made decodes to the same corrections. Assumes nothing.
use Rattle.lists.proofs.Prelude.{ℕ, suc, ◌+◌, ◌-◌, ◌≤◌, ◌<◌, ◌≡◌, refl, sym, ap, ap₂, ◌∙◌, true, List, [], ◌∷◌, ◌++◌, map, append_assoc, arith, add-one, length, take, drop, slice, length-append, length-drop, drop-drop, drop_at, take_at, eq-eqb}
use Rattle.lists.proofs.Places.{drop-take}
use Rattle.feed_numerals.specs.Numeral.{spelled, numeral_limit}
use Rattle.feed_numerals.proofs.RoundTrip.{spelled-read}
use Rattle.feed.specs.Feed.{Correction, Listing, correction_at, entries_from, listing, corrections}
use Rattle.feed.specs.Made.{corrections_bytes, feed_bytes, Sendable}
use Rattle.feed.proofs.Entries.{one-listed, next_one, listed-end, listed-one, listing-count}

-- what a listing says of the corrections cs
pub record Lists (w : List ℕ) (cs : List Correction) (l : Listing) : Type 0 where
  pub whole : l.whole ≡ true
  pub same : map (correction_at w) l.entries ≡ cs

-- behind a front part
drop-front : (w x y : List ℕ) (p : ℕ) → drop p w ≡ x ++ y → drop (p + length x) w ≡ y
drop-front w x y p e = sym (drop-drop (length x) p w) ∙ ap (drop (length x)) e ∙ drop_at x y (length x) refl

-- the place behind a front part is within the whole
front-within : (w x y : List ℕ) (p : ℕ) → p ≤ length w → drop p w ≡ x ++ y → p + length x + length y ≡ length w
front-within w x y p h e = omega (arith, ap length e, length-append x y, length-drop p w, h)

slice_front : (w x y : List ℕ) (p : ℕ) → p ≤ length w → drop p w ≡ x ++ y → slice p (p + length x) w ≡ x
slice_front w x y p h e = drop-take p (length x) w h ∙ ap (take (length x)) e ∙ take_at x y (length x) refl

listed-made : (w : List ℕ) (cs : List Correction) (low p : ℕ) → p ≤ length w → drop p w ≡ corrections_bytes cs → Sendable low cs → Lists w cs (entries_from w (length cs) low p)
listed-made w [] low p h e s =
    let z : p ≡ length w = omega (arith, ap length e, length-drop p w, h) in
    let l = listed-end w 0 low p refl in
    record { whole = ap (λ (x : Listing). x.whole) l ∙ eq-eqb p (length w) z; same = ap (λ (x : Listing). map (correction_at w) x.entries) l }
listed-made w (c ∷ cs) low p h e s =
    let v = spelled c.value in
    let n = spelled (length c.bytes) in
    let rest = corrections_bytes cs in
    let e1 : drop p w ≡ v ++ (n ++ (c.bytes ++ rest)) = e ∙ append_assoc v (n ++ c.bytes) rest ∙ ap (λ (x : List ℕ). v ++ x) (append_assoc n c.bytes rest) in
    let e2 = drop-front w v (n ++ (c.bytes ++ rest)) p e1 in
    let e3 = drop-front w n (c.bytes ++ rest) (p + length v) e2 in
    let e4 = drop-front w c.bytes rest (p + length v + length n) e3 in
    let i1 = front-within w v (n ++ (c.bytes ++ rest)) p h e1 in
    let i2 = front-within w n (c.bytes ++ rest) (p + length v) (omega (arith, i1)) e2 in
    let i3 = front-within w c.bytes rest (p + length v + length n) (omega (arith, i2)) e3 in
    let q = p + length v + length n in
    let to = q + length c.bytes in
    let k = next_one w low p c.value (length v) (spelled-read w p c.value (n ++ (c.bytes ++ rest)) s.1 e1) s.0 (length c.bytes) (length n)
    (spelled-read w (p + length v) (length c.bytes) (c.bytes ++ rest) s.2 e2) (omega (arith, i3)) in
    let l = listed-one w (suc (length cs)) low p c.value q to (omega arith) (sym k) in
    let m : suc (length cs) - 1 ≡ length cs = omega arith in
    let o : c.value + 1 ≡ suc c.value = add-one c.value in
    let f : entries_from w (suc (length cs) - 1) (c.value + 1) to ≡ entries_from w (length cs) (suc c.value) to = ap₂ (λ (x y : ℕ). entries_from w x y to) m o in
    let r = listed-made w cs (suc c.value) to (omega (arith, i3)) e4 s.3 in
    record {
      whole = ap (λ (x : Listing). x.whole) (l ∙ ap (one-listed c.value q to) f) ∙ r.whole;
      same =
          ap (λ (x : Listing). map (correction_at w) x.entries) (l ∙ ap (one-listed c.value q to) f)
          ∙ ap₂ (λ (x : List ℕ) (y : List Correction). record { value = c.value; bytes = x } ∷ y) (slice_front w c.bytes rest q (omega (arith, i3)) e3) r.same;
    }

-- corrections that four groups hold, whose numbers strictly rise, made into a feed: it is well-formed and decodes to them
pub feed-decodes : (cs : List Correction) → length cs < numeral_limit → Sendable 0 cs → ((listing (feed_bytes cs)).whole ≡ true) × (corrections (feed_bytes cs) ≡ cs)
feed-decodes cs h s =
    let w = feed_bytes cs in
    let n = spelled (length cs) in
    let k = spelled-read w 0 (length cs) (corrections_bytes cs) h refl in
    let l = listing-count w (length cs) (length n) k in
    let r = listed-made w cs 0 (length n) (omega (arith, length-append n (corrections_bytes cs))) (drop_at n (corrections_bytes cs) (length n) refl) s in
    (ap (λ (x : Listing). x.whole) l ∙ r.whole, ap (λ (x : Listing). map (correction_at w) x.entries) l ∙ r.same)
