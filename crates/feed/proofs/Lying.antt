-- The bytes of corrections lie in the feed. Assumes nothing.
use Rattle.lists.proofs.Prelude.{ℕ, zero, suc, ◌+◌, ◌≤◌, ◌≡◌, refl, ap, Bool, true, false, List, [], ◌∷◌, arith, length, leb, ltb, eqb, leb-true, pick}
use Rattle.lists.specs.All.{All}
use Rattle.lists.proofs.Tests.{never}
use Rattle.feed_numerals.specs.Numeral.{numeral_at}
use Rattle.feed.specs.Feed.{Entry, sized, with_number, entry_at, followed, entries_from, entries_by, listing}
use Rattle.feed.specs.Find.{found_in}
use Rattle.std.specs.Prelude.{Option, Some, None}

module _ (w : List ℕ) where
  abbrev pub Inside : Entry → Type 0
  Inside x = (x.from ≤ x.to) × (x.to ≤ length w)

  abbrev InsideNext : Option (ℕ × ℕ × ℕ) → Type 0
  InsideNext (Some (v, a, e)) = (a ≤ e) × (e ≤ length w)
  InsideNext None = Unit {0}

  sized_inside : (v q : ℕ) (r : Option (ℕ × ℕ)) → InsideNext (sized w v q r)
  sized_inside v q None = tt
  sized_inside v q (Some (l, m)) = go (leb (q + m + l) (length w)) refl
    where
      go : (b : Bool) → leb (q + m + l) (length w) ≡ b → InsideNext (pick b (Some (v, q + m, q + m + l)) None)
      go true k = (omega arith, leb-true (q + m + l) (length w) k)
      go false k = tt

  numbered-inside : (low p : ℕ) (r : Option (ℕ × ℕ)) → InsideNext (with_number w low p r)
  numbered-inside low p None = tt
  numbered-inside low p (Some (v, n)) = go (ltb v low)
    where
      go : (b : Bool) → InsideNext (pick b None (sized w v (p + n) (numeral_at w (p + n))))
      go true = tt
      go false = sized_inside v (p + n) (numeral_at w (p + n))

  next-inside : (low p : ℕ) → InsideNext (entry_at w low p)
  unfolding entry_at
  next-inside low p = numbered-inside low p (numeral_at w p)

  listed-inside : (c low p : ℕ) → All Inside (entries_from w c low p).entries
  unfolding entries_from
  listed-inside zero low p = tt
  listed-inside (suc c) low p = go (entry_at w low p) (next-inside low p) (λ l q. listed-inside c l q)
    where
      go : (x : Option (ℕ × ℕ × ℕ)) → InsideNext x → ((l q : ℕ) → All Inside (entries_from w c l q).entries) → All Inside (followed x (λ l q. entries_from w c l q)).entries
      go None i r = tt
      go (Some (v, a, e)) i r = (i, r (suc v) e)

  pub listing-inside : All Inside (listing w).entries
  unfolding listing
  listing-inside = go (numeral_at w 0)
    where
      go : (r : Option (ℕ × ℕ)) → All Inside (entries_by w r).entries
      go None = tt
      go (Some (c, n)) = listed-inside c 0 n

  abbrev from_of : Option (ℕ × ℕ) → ℕ
  from_of (Some (a, e)) = a
  from_of None = 0

  abbrev to_of : Option (ℕ × ℕ) → ℕ
  to_of (Some (a, e)) = e
  to_of None = 0

  abbrev is_at : Option (ℕ × ℕ) → ℕ
  is_at (Some (a, e)) = 1
  is_at None = 0

  entries-found : (xs : List Entry) → All Inside xs → (k a e : ℕ) → found_in xs k ≡ Some (a, e) → (a ≤ e) × (e ≤ length w)
  unfolding found_in
  entries-found [] h k a e f = never (ap is_at f)
  entries-found (x ∷ xs) h k a e f = go (eqb x.value k) (λ g. entries-found xs h.1 k a e g) f
    where
      go : (b : Bool) → (found_in xs k ≡ Some (a, e) → (a ≤ e) × (e ≤ length w)) → pick b (Some (x.from, x.to)) (found_in xs k) ≡ Some (a, e) → (a ≤ e) × (e ≤ length w)
      go true r g = let p : x.from ≡ a = ap from_of g in let q : x.to ≡ e = ap to_of g in (omega (arith, h.0.0, p, q), omega (arith, h.0.1, q))
      go false r g = r g

  -- a value that is found stands in the feed
  pub found_inside : (k a e : ℕ) → found_in (listing w).entries k ≡ Some (a, e) → (a ≤ e) × (e ≤ length w)
  found_inside k a e f = entries-found (listing w).entries listing-inside k a e f
