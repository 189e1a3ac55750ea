-- Memory that holds a text with other bytes for its values fits, where each value has closed and valid bytes and those of game types stay: it is come to by edits of
-- which none exceeds limit or room, first those that do not lengthen a value, then the others. Assumes nothing.
use Rattle.lists.proofs.Prelude.{ℕ, zero, suc, ◌≤◌, ◌<◌, Bool, true, false, ◌&&◌, not, ◌≡◌, refl, sym, ap, ap₂, ◌∙◌, subst, subst⁻¹, arith, List, leb, ltb, length, lt-ltb, leb-true, leb-false, length-take-le, pick}
use Rattle.lists.specs.Same.{same}
use Rattle.text_utf8.specs.Text.{Ink, blank, whole, utfs}
use Rattle.lexer.specs.Closed.{closed}
use Rattle.tables.specs.Memory.{Memory}
use Rattle.tables.specs.Numbers.{text_limit}
use Rattle.tables.specs.Rows.{Tables}
use Rattle.tables.proofs.Cases.{and_left, and_right}
use Rattle.parser.specs.Game.{GM}
use Rattle.fit.specs.Fit.{Fit}
use Rattle.fit.specs.Record.{rows_in, text_in}
use Rattle.fit.proofs.Clauses.{fit-short}
use Rattle.fit.proofs.Whole.{fit-lent}
use Rattle.edit_answer.specs.Edit.{gives, owner_name}
use Rattle.edit.specs.Lent.{memory_after}
use Rattle.edit_laws.specs.Calls.{memory_next}
use Rattle.edit_session.proofs.OfFitting.{used-lent}
use Rattle.feed_laid.specs.Laid.{with}
use Rattle.feed_laid.specs.OfMemory.{laid_text, own_bytes}
use Rattle.feed_laid.proofs.OverMemory.{own-text}
use Rattle.feed_laws.proofs.Partly.{laid_same, laid-least}
use Rattle.feed_undo.proofs.Swept.{swept, swept-is}
use Rattle.feed_undo.proofs.Relaid.{laid_memory, rows_same}
use Rattle.feed_undo.proofs.Fits.{own-fits, one-fits}
use Rattle.std.specs.Prelude.{Ok}

module _ (m : Memory) (fit : Fit m ≡ true) where
  abbrev n : ℕ
  n = m.counts.values

  abbrev own : ℕ → List ℕ
  own = own_bytes m

  abbrev room : ℕ
  room = length m.text

  abbrev game : ℕ → Bool
  game k = same (owner_name (text_in m) (rows_in m).props k) GM

  -- ---- all values that pass a test

  module _ (f : ℕ → List ℕ) (valid : (j : ℕ) → j < n → (i : Ink) × (utfs (whole blank) 0 (f j) ≡ whole i)) (shut : (j : ℕ) → j < n → closed (f j) ≡ true) where
    module _ (test : ℕ → Bool) (free : (j : ℕ) → test j ≡ true → game j ≡ false) (g h : ℕ → List ℕ)
        (most : (k j : ℕ) → j < n → length (swept f test g k j) ≤ length (h j))
        (short : length (laid_text m h) ≤ text_limit) (roomy : length (laid_text m h) ≤ room) (fits : Fit (laid_memory m g) ≡ true) where
      sweep-fits : (k : ℕ) → k ≤ n → Fit (laid_memory m (swept f test g k)) ≡ true
      sweep-fits zero l = fits
      sweep-fits (suc k) l = go (test k) refl (sweep-fits k (omega arith))
        where
          most-of : (x : ℕ → List ℕ) → swept f test g (suc k) ≡ x → (j : ℕ) → j < n → length (x j) ≤ length (h j)
          most-of x e j q = subst (λ (y : ℕ → List ℕ). length (y j) ≤ length (h j)) e (most (suc k) j q)

          go : (b : Bool) → test k ≡ b → Fit (laid_memory m (swept f test g k)) ≡ true → Fit (laid_memory m (pick b (with (swept f test g k) k (f k)) (swept f test g k))) ≡ true
          go false e x = x
          go true e x =
              let s = swept f test g k in
              let q : k < n = omega arith in
              let y = with s k (f k) in
              let z = laid-least m fit y h (most-of y (ap (λ (b : Bool). pick b y s) e)) in
              one-fits m fit s (omega (arith, laid-least m fit s h (most k), roomy)) x k (f k) q (free k e) (valid k q).0 (valid k q).1 (shut k q) (omega (arith, z, short)) (omega (arith, z, roomy))

    module _ (fixed : (j : ℕ) → j < n → game j ≡ true → f j ≡ own j) (short : length (laid_text m f) ≤ text_limit) (roomy : length (laid_text m f) ≤ room) where
      abbrev t1 : ℕ → Bool
      t1 j = not (game j) && leb (length (f j)) (length (own j))

      abbrev t2 : ℕ → Bool
      t2 j = not (game j)

      abbrev first : ℕ → List ℕ
      first = swept f t1 own n

      not-game : (b : Bool) → not b ≡ true → b ≡ false
      not-game true e = sym e
      not-game false e = refl

      most-first : (k j : ℕ) → j < n → length (swept f t1 own k j) ≤ length (own j)
      most-first k j q = subst⁻¹ (λ (z : List ℕ). length z ≤ length (own j)) (swept-is f t1 own k j) (go (t1 j && ltb j k) refl)
        where
          go : (b : Bool) → (t1 j && ltb j k) ≡ b → length (pick b (f j) (own j)) ≤ length (own j)
          go true e = leb-true (length (f j)) (length (own j)) (and_right (not (game j)) (leb (length (f j)) (length (own j))) (and_left (t1 j) (ltb j k) e))
          go false e = omega arith

      first-most : (j : ℕ) → j < n → length (first j) ≤ length (f j)
      first-most j q = subst⁻¹ (λ (z : List ℕ). length z ≤ length (f j)) (swept-is f t1 own n j ∙ ap (λ (b : Bool). pick (t1 j && b) (f j) (own j)) (lt-ltb j n q)) (go (game j) refl)
        where
          last : (c : Bool) → leb (length (f j)) (length (own j)) ≡ c → length (pick (true && c && true) (f j) (own j)) ≤ length (f j)
          last true e = omega arith
          last false e = let z = leb-false (length (f j)) (length (own j)) e in omega (arith, z)

          go : (b : Bool) → game j ≡ b → length (pick (not b && leb (length (f j)) (length (own j)) && true) (f j) (own j)) ≤ length (f j)
          go true e = omega (arith, ap length (fixed j q e))
          go false e = last (leb (length (f j)) (length (own j))) refl

      most-second : (k j : ℕ) → j < n → length (swept f t2 first k j) ≤ length (f j)
      most-second k j q = subst⁻¹ (λ (z : List ℕ). length z ≤ length (f j)) (swept-is f t2 first k j) (go (t2 j && ltb j k))
        where
          go : (b : Bool) → length (pick b (f j) (first j)) ≤ length (f j)
          go true = omega arith
          go false = first-most j q

      all_set : (j : ℕ) → j < n → swept f t2 first n j ≡ f j
      all_set j q = swept-is f t2 first n j ∙ ap (λ (b : Bool). pick (t2 j && b) (f j) (first j)) (lt-ltb j n q) ∙ go (game j) refl
        where
          go : (b : Bool) → game j ≡ b → pick (not b && true) (f j) (first j) ≡ f j
          go false e = refl
          go true e = swept-is f t1 own n j ∙ ap (λ (b : Bool). pick (not b && leb (length (f j)) (length (own j)) && ltb j n) (f j) (own j)) e ∙ sym (fixed j q e)

      -- the memory fits
      pub all-fits : Fit (laid_memory m f) ≡ true
      all-fits =
          let u = own-text m fit in
          let s = fit-short m fit in
          let l = length-take-le m.used m.text (fit-lent m fit).0 in
          let a = sweep-fits t1 (λ j e. not-game (game j) (and_left (not (game j)) (leb (length (f j)) (length (own j))) e)) own own most-first
          (subst⁻¹ (λ (z : List ℕ). length z ≤ text_limit) u (omega (arith, l, s))) (subst⁻¹ (λ (z : List ℕ). length z ≤ room) u (used-lent m fit)) (own-fits m fit) n (omega arith) in
          let b = sweep-fits t2 (λ j e. not-game (game j) e) first f most-second short roomy a n (omega arith) in
          let x = swept f t2 first n in
          subst (λ (M : Memory). Fit M ≡ true)
          (ap₂ (λ (t : List ℕ) (T : Tables). memory_next (memory_after (gives t T) m) (Ok (length t))) (laid_same m fit x f all_set) (rows_same m fit x f all_set)) b
