-- The bytes that a feed gives a value, by its corrections: those of the correction with its number, of which there is one at most. Assumes nothing.
use Rattle.lists.proofs.Prelude.{ℕ, zero, suc, ◌+◌, ◌≤◌, ◌<◌, Bool, true, false, ◌≡◌, refl, sym, ap, ◌∙◌, arith, List, [], ◌∷◌, map, eqb, leb, ltb, length, eq-eqb, ne_eqb, eqb-true, eqb-false, ltb-false, pick}
use Rattle.tables.specs.Memory.{Memory}
use Rattle.feed_numerals.specs.Numeral.{numeral_at}
use Rattle.feed.specs.Feed.{Correction, Entry, correction_at, sized, with_number, entry_at, followed, entries_from, entries_by, listing, corrections}
use Rattle.feed.specs.Find.{found_in}
use Rattle.feed_laid.specs.Laid.{with}
use Rattle.feed_laid.specs.OfMemory.{own_bytes}
use Rattle.feed_laws.specs.Corrected.{bytes_for, new_bytes}
use Rattle.edit_laws.specs.Run.{Order}
use Rattle.feed_undo.specs.Undo.{order_of, correction_back}
use Rattle.std.specs.Prelude.{Option, Some, None}

-- ---- numbers rise

abbrev RisesFrom : ℕ → List Correction → Type 0
RisesFrom low [] = Unit {0}
RisesFrom low (c ∷ cs) = (low ≤ c.value) × RisesFrom (suc c.value) cs

abbrev LowNext : ℕ → Option (ℕ × ℕ × ℕ) → Type 0
LowNext low (Some (v, a, e)) = low ≤ v
LowNext low None = Unit {0}

module _ (w : List ℕ) where
  low-sized : (low v q : ℕ) → low ≤ v → (r : Option (ℕ × ℕ)) → LowNext low (sized w v q r)
  low-sized low v q h None = tt
  low-sized low v q h (Some (l, m)) = go (leb (q + m + l) (length w))
    where
      go : (b : Bool) → LowNext low (pick b (Some (v, q + m, q + m + l)) None)
      go true = h
      go false = tt

  low-numbered : (low p : ℕ) (r : Option (ℕ × ℕ)) → LowNext low (with_number w low p r)
  low-numbered low p None = tt
  low-numbered low p (Some (v, n)) = go (ltb v low) refl
    where
      go : (b : Bool) → ltb v low ≡ b → LowNext low (pick b None (sized w v (p + n) (numeral_at w (p + n))))
      go true e = tt
      go false e = low-sized low v (p + n) (ltb-false v low e) (numeral_at w (p + n))

  low-next : (low p : ℕ) → LowNext low (entry_at w low p)
  unfolding entry_at
  low-next low p = low-numbered low p (numeral_at w p)

  rises-from : (count low p : ℕ) → RisesFrom low (map (correction_at w) (entries_from w count low p).entries)
  unfolding entries_from
  rises-from zero low p = tt
  rises-from (suc c) low p = go (entry_at w low p) (low-next low p) (λ l q. rises-from c l q)
    where
      go : (x : Option (ℕ × ℕ × ℕ)) → LowNext low x → ((l q : ℕ) → RisesFrom l (map (correction_at w) (entries_from w c l q).entries))
          → RisesFrom low (map (correction_at w) (followed x (λ l q. entries_from w c l q)).entries)
      go None h r = tt
      go (Some (v, a, e)) h r = (h, r (suc v) e)

  pub feed-rises : RisesFrom 0 (corrections w)
  unfolding listing
  feed-rises = go (numeral_at w 0)
    where
      go : (r : Option (ℕ × ℕ)) → RisesFrom 0 (map (correction_at w) (entries_by w r).entries)
      go None = tt
      go (Some (c, n)) = rises-from c 0 n

-- ---- the bytes chosen for value j

abbrev pub chosen : List Correction → ℕ → List ℕ → List ℕ
chosen [] j own = own
chosen (c ∷ cs) j own = pick (eqb c.value j) c.bytes (chosen cs j own)

chosen-found : (w : List ℕ) (es : List Entry) (j : ℕ) (own : List ℕ) → bytes_for w (found_in es j) own ≡ chosen (map (correction_at w) es) j own
unfolding found_in
chosen-found w [] j own = refl
chosen-found w (x ∷ es) j own = go (eqb x.value j) (chosen-found w es j own)
  where
    go : (b : Bool) → bytes_for w (found_in es j) own ≡ chosen (map (correction_at w) es) j own
        → bytes_for w (pick b (Some (x.from, x.to)) (found_in es j)) own ≡ pick b (correction_at w x).bytes (chosen (map (correction_at w) es) j own)
    go true h = refl
    go false h = h

pub new-chosen : (m : Memory) (w : List ℕ) (j : ℕ) → new_bytes m w j ≡ chosen (corrections w) j (own_bytes m j)
new-chosen m w j = chosen-found w (listing w).entries j (own_bytes m j)

-- none is chosen below the numbers
chosen-low : (cs : List Correction) (low j : ℕ) (own : List ℕ) → RisesFrom low cs → j < low → chosen cs j own ≡ own
chosen-low [] low j own h l = refl
chosen-low (c ∷ cs) low j own h l =
    let z = h.0 in
    ap (λ (b : Bool). pick b c.bytes (chosen cs j own)) (ne_eqb c.value j (λ e. omega (arith, e, z, l))) ∙ chosen-low cs (suc c.value) j own h.1 (omega (arith, z, l))

-- ---- the corrections one after another

abbrev pub set_all : (ℕ → List ℕ) → List Order → ℕ → List ℕ
set_all f [] = f
set_all f (x ∷ xs) = set_all (with f x.value x.bytes) xs

pub set-chosen : (cs : List Correction) (low : ℕ) (f : ℕ → List ℕ) (j : ℕ) → RisesFrom low cs → set_all f (map order_of cs) j ≡ chosen cs j (f j)
set-chosen [] low f j h = refl
set-chosen (c ∷ cs) low f j h = set-chosen cs (suc c.value) (with f c.value c.bytes) j h.1 ∙ go (eqb c.value j) refl
  where
    go : (b : Bool) → eqb c.value j ≡ b → chosen cs j (pick (eqb j c.value) c.bytes (f j)) ≡ pick b c.bytes (chosen cs j (f j))
    go true e =
        let v : c.value ≡ j = eqb-true c.value j e in
        ap (λ (x : Bool). chosen cs j (pick x c.bytes (f j))) (eq-eqb j c.value (sym v)) ∙ chosen-low cs (suc c.value) j c.bytes h.1 (omega (arith, v))
    go false e = ap (λ (x : Bool). chosen cs j (pick x c.bytes (f j))) (ne_eqb j c.value (λ z. absurd (eqb-false c.value j e (sym z))))

-- ---- what the inverse feed chooses are the own bytes again

back-of : (m : Memory) (j : ℕ) (cs : List Correction) (d : List ℕ) → chosen cs j (own_bytes m j) ≡ d → chosen (map (correction_back m) cs) j d ≡ own_bytes m j
back-of m j [] d e = sym e
back-of m j (c ∷ cs) d e = go (eqb c.value j) refl (back-of m j cs d)
  where
    go : (b : Bool) → eqb c.value j ≡ b → (chosen cs j (own_bytes m j) ≡ d → chosen (map (correction_back m) cs) j d ≡ own_bytes m j)
        → pick b (own_bytes m c.value) (chosen (map (correction_back m) cs) j d) ≡ own_bytes m j
    go true z r = ap (own_bytes m) (eqb-true c.value j z)
    go false z r = r (sym (ap (λ (x : Bool). pick x c.bytes (chosen cs j (own_bytes m j))) z) ∙ e)

pub back-chosen : (m : Memory) (cs : List Correction) (j : ℕ) → chosen (map (correction_back m) cs) j (chosen cs j (own_bytes m j)) ≡ own_bytes m j
back-chosen m cs j = back-of m j cs (chosen cs j (own_bytes m j)) refl
