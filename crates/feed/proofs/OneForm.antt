-- A well-formed feed is exactly what is made of what it decodes to. Assumes nothing.
use Rattle.lists.proofs.Prelude.{ℕ, zero, suc, ◌+◌, ◌≤◌, ◌<◌, ◌≡◌, refl, sym, ap, ap₂, ◌∙◌, Bool, true, false, false≢true, List, ◌++◌, map, append_assoc, arith, length, drop, slice, length-map, length-slice, take-append-drop, drop-drop, drop_of_length-le, leb, ltb, eqb-true, leb-true, ltb-false, pick}
use Rattle.lists.specs.All.{All}
use Rattle.lists.proofs.Places.{drop-take}
use Rattle.feed_numerals.specs.Numeral.{numeral_at, spelled, numeral_limit}
use Rattle.feed_numerals.proofs.RoundTrip.{read-spelled}
use Rattle.feed.specs.Feed.{Listing, correction_at, sized, with_number, entry_at, followed, entries_from, entries_by, listing, corrections}
use Rattle.feed.specs.Made.{correction_bytes, corrections_bytes, feed_bytes, Sendable}
use Rattle.std.specs.Prelude.{Option, Some, None}

-- a part of so many bytes, and what follows it
slice-length : (w : List ℕ) (p n : ℕ) → p + n ≤ length w → length (slice p (p + n) w) ≡ n
slice-length w p n h = omega (arith, length-slice p (p + n) w h)

drop-slice : (w : List ℕ) (p n : ℕ) → p + n ≤ length w → drop p w ≡ slice p (p + n) w ++ drop (p + n) w
drop-slice w p n h =
    sym
    (ap₂ (λ (x y : List ℕ). x ++ y) (drop-take p n w (omega (arith, h))) (sym (drop-drop n p w))
    ∙ take-append-drop n (drop p w))

-- one that was read: what stands at p is its spelling, then what follows it
pub record Spelt (w : List ℕ) (low p v a e : ℕ) : Type 0 where
  pub low-enough : low ≤ v
  pub small : v < numeral_limit
  pub short : length (slice a e w) < numeral_limit
  pub bytes : drop p w ≡ correction_bytes v (slice a e w) ++ drop e w
  pub within : e ≤ length w

abbrev Told : List ℕ → (low p : ℕ) → Option (ℕ × ℕ × ℕ) → Type 0
Told w low p (Some (v, a, e)) = Spelt w low p v a e
Told w low p None = Unit {0}

module _ (w : List ℕ) (all : All (λ b. b < 256) w) (low p : ℕ) where
  module _ (v n : ℕ) (e : numeral_at w p ≡ Some (v, n)) (h : low ≤ v) where
    told-sized : (r : Option (ℕ × ℕ)) → numeral_at w (p + n) ≡ r → Told w low p (sized w v (p + n) r)
    told-sized None f = tt
    told-sized (Some (l, m)) f = go (leb (p + n + m + l) (length w)) refl
      where
        go : (b : Bool) → leb (p + n + m + l) (length w) ≡ b → Told w low p (pick b (Some (v, p + n + m, p + n + m + l)) None)
        go false k = tt
        go true k =
            let x = read-spelled w p v n all e in
            let y = read-spelled w (p + n) l m all f in
            let i = leb-true (p + n + m + l) (length w) k in
            let bytes = slice (p + n + m) (p + n + m + l) w in
            let size : length bytes ≡ l = slice-length w (p + n + m) l i in
            record {
              low-enough = h;
              small = x.0;
              short = omega (arith, size, y.0);
              bytes =
                  x.1
                  ∙ ap (λ (z : List ℕ). spelled v ++ z) (y.1 ∙ ap₂ (λ (t : ℕ) (z : List ℕ). spelled t ++ z) (sym size) (drop-slice w (p + n + m) l i))
                  ∙ ap (λ (z : List ℕ). spelled v ++ z) (sym (append_assoc (spelled (length bytes)) bytes (drop (p + n + m + l) w)))
                  ∙ sym (append_assoc (spelled v) (spelled (length bytes) ++ bytes) (drop (p + n + m + l) w));
              within = i;
            }

  told-numbered : (r : Option (ℕ × ℕ)) → numeral_at w p ≡ r → Told w low p (with_number w low p r)
  told-numbered None e = tt
  told-numbered (Some (v, n)) e = go (ltb v low) refl
    where
      go : (b : Bool) → ltb v low ≡ b → Told w low p (pick b None (sized w v (p + n) (numeral_at w (p + n))))
      go true k = tt
      go false k = told-sized v n e (ltb-false v low k) (numeral_at w (p + n)) refl

  told : Told w low p (entry_at w low p)
  unfolding entry_at
  told = told-numbered (numeral_at w p) refl

-- a whole listing: what stands at p are its corrections, spelled, and nothing else
pub record Whole (w : List ℕ) (count low p : ℕ) (l : Listing) : Type 0 where
  pub counted : length l.entries ≡ count
  pub sendable : Sendable low (map (correction_at w) l.entries)
  pub bytes : drop p w ≡ corrections_bytes (map (correction_at w) l.entries)

whole-listed : (w : List ℕ) → All (λ b. b < 256) w → (count low p : ℕ) → (entries_from w count low p).whole ≡ true → Whole w count low p (entries_from w count low p)
unfolding entries_from
whole-listed w all zero low p h =
    let e : p ≡ length w = eqb-true p (length w) h in
    record { counted = refl; sendable = tt; bytes = let i : length w ≤ p = omega (arith, e) in drop_of_length-le w i }
whole-listed w all (suc c) low p h = go (entry_at w low p) (told w all low p) (λ l q k. whole-listed w all c l q k) h
  where
    go : (x : Option (ℕ × ℕ × ℕ)) → Told w low p x → ((l q : ℕ) → (entries_from w c l q).whole ≡ true → Whole w c l q (entries_from w c l q))
        → (followed x (λ l q. entries_from w c l q)).whole ≡ true → Whole w (suc c) low p (followed x (λ l q. entries_from w c l q))
    go None y r k = absurd (false≢true k)
    go (Some (v, a, e)) y r k =
        let z = r (suc v) e k in
        record {
          counted = ap suc z.counted;
          sendable = (y.low-enough, y.small, y.short, z.sendable);
          bytes = y.bytes ∙ ap (λ (t : List ℕ). correction_bytes v (slice a e w) ++ t) z.bytes;
        }

-- a well-formed feed is exactly what is made of what it decodes to; and that can be sent
pub feed-one-form : (w : List ℕ) → All (λ b. b < 256) w → (listing w).whole ≡ true
    → (feed_bytes (corrections w) ≡ w) × (length (corrections w) < numeral_limit) × Sendable 0 (corrections w)
unfolding listing
feed-one-form w all h = go (numeral_at w 0) refl h
  where
    go : (r : Option (ℕ × ℕ)) → numeral_at w 0 ≡ r → (entries_by w r).whole ≡ true
        → (feed_bytes (map (correction_at w) (entries_by w r).entries) ≡ w)
        × (length (map (correction_at w) (entries_by w r).entries) < numeral_limit)
        × Sendable 0 (map (correction_at w) (entries_by w r).entries)
    go None e k = absurd (false≢true k)
    go (Some (c, n)) e k =
        let x = read-spelled w 0 c n all e in
        let z = whole-listed w all c 0 n k in
        let m : length (map (correction_at w) (entries_from w c 0 n).entries) ≡ c = length-map (entries_from w c 0 n).entries (correction_at w) ∙ z.counted in
        let o : 0 + n ≡ n = omega arith in (
          ap₂ (λ (t : ℕ) (y : List ℕ). spelled t ++ y) m (sym z.bytes) ∙ ap (λ (t : ℕ). spelled c ++ drop t w) (sym o) ∙ sym x.1,
          omega (arith, m, x.0),
          z.sendable,
        )
