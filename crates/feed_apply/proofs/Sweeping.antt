-- The sweeps over the text, correction by correction. Assumes nothing.
use Rattle.lists.proofs.Prelude.{ℕ, suc, ◌+◌, ◌-◌, ◌≤◌, ◌<◌, Bool, true, false, ◌≡◌, sym, ap, ap₂, ◌∙◌, arith, List, length, slice, leb, ltb, leb-true, leb-false, ltb-true, ltb-false, length-take, length-take-le, pick}
use Rattle.tables.proofs.Cases.{either-bool}
use Rattle.tables.specs.Columns.{val_from_at, val_to_at}
use Rattle.tables.specs.Memory.{Memory}
use Rattle.fit.specs.Fit.{Fit}
use Rattle.fit.specs.Record.{text_in}
use Rattle.fit.proofs.Whole.{fit-lent}
use Rattle.edit_splice.specs.Splice.{replaced}
use Rattle.feed.specs.Feed.{listing}
use Rattle.feed.specs.Find.{found_in}
use Rattle.feed_laid.specs.Laid.{with, shift}
use Rattle.feed_laid.specs.OfMemory.{laid_text, own_bytes}
use Rattle.feed_laid.proofs.OverMemory.{order, apart}
use Rattle.feed_laid.proofs.Places.{value-size}
use Rattle.feed_laws.specs.Corrected.{bytes_for, new_bytes}
use Rattle.feed_laws.specs.LocalsSweep.{until, lesser}
use Rattle.feed_laws.proofs.Held.{held_text, value-inside, edited-length, held-replaced}
use Rattle.feed_laws.proofs.Partly.{until-from, until-with, until_skip, laid_same, lesser-new, lesser-own, way-shorter, way-longer}
use Rattle.feed_apply.specs.LocalsSizes.{old_size, grown_to, shrunk_to}
use Rattle.feed_apply.specs.LocalsText.{shorter_put, longer_put}
use Rattle.feed_apply.proofs.Measuring.{own-size, less-start, new-start}
use Rattle.feed_apply.proofs.Holding.{Holds, holds_same}
use Rattle.std.specs.Prelude.{Option, Some}

module _ (m : Memory) (fit : Fit m ≡ true) (w : List ℕ) where
  abbrev vl : List ℕ
  vl = m.values

  abbrev n : ℕ
  n = m.counts.values

  abbrev a : ℕ → ℕ
  a = val_from_at vl

  abbrev e : ℕ → ℕ
  e = val_to_at vl

  abbrev new : ℕ → List ℕ
  new = new_bytes m w

  abbrev own : ℕ → List ℕ
  own = own_bytes m

  abbrev less : ℕ → List ℕ
  less = lesser m w

  -- ---- one value's bytes replaced

  replaced-as : (f : ℕ → List ℕ) (k : ℕ) (below : k < n) (bytes : List ℕ) {t : List ℕ} {used start end : ℕ} → Holds m fit w f t used
      → start ≡ shift a e f k (a k) → end ≡ shift a e f (suc k) (e k)
      → length (laid_text m f) ≤ length m.text → length (laid_text m (with f k bytes)) ≤ length m.text
      → length (laid_text m f) ≤ length (laid_text m (with f k bytes)) + (m.used - length (laid_text m (with f k bytes)))
      → Holds m fit w (with f k bytes) (replaced t used start end bytes) (start + length bytes + (used - end))
  replaced-as f k below bytes {t} {used} {start} {end} x es ee h i l =
      record {
        bytes =
            ap₂ (λ (y : List ℕ) (u : ℕ). replaced y u start end bytes) x.bytes x.long
            ∙ ap₂ (λ (y z : ℕ). replaced (held_text m fit f) (length (laid_text m f)) y z bytes) es ee
            ∙ held-replaced m fit f k below bytes h i l;
        long = omega (arith, es, ee, x.long, edited-length m fit f k below bytes);
      }

  lent : length (text_in m) ≤ length m.text
  lent = omega (arith, length-take m.used m.text)

  pub used-is : length (text_in m) ≡ m.used
  used-is = length-take-le m.used m.text (fit-lent m fit).0

  -- ---- one correction

  module _ (k b z : ℕ) (below : k < n) (found : found_in (listing w).entries k ≡ Some (b, z)) where
    abbrev bytes : List ℕ
    bytes = slice b z w

    new_is : new k ≡ bytes
    new_is = ap (λ (x : Option (ℕ × ℕ)). bytes_for w x (own k)) found

    less-span : shift a e (until k less own) (suc k) (e k) ≡ a k - shrunk_to vl w k + old_size vl k
    less-span =
        value-size a e n (order m fit) (apart m fit) (until k less own) k below
        ∙ ap₂ (λ (x y : ℕ). x + y) (less-start m fit w k below) (ap length (until-from less own k k (omega arith)) ∙ own-size m fit w k below)

    pub less-fits : {t : List ℕ} {used : ℕ} → Holds m fit w (until k less own) t used → a k - shrunk_to vl w k + old_size vl k ≤ used
    less-fits x = omega (arith, x.long, less-span, value-inside m fit (until k less own) k below)

    module _ {t : List ℕ} {used start old : ℕ} (x : Holds m fit w (until k less own) t used) (es : start ≡ a k - shrunk_to vl w k) (eo : old ≡ old_size vl k) where
      abbrev Short : Type 0
      Short = Holds m fit w (until (suc k) less own) (shorter_put t used start old bytes) (used - (old - length bytes))

      short-stays : leb (length bytes) old ≡ false → Short
      short-stays c =
          let l = leb-false (length bytes) old c in
          let s = lesser-own m fit w k (omega (arith, own-size m fit w k below, ap length new_is, eo, l)) in
          let r = holds_same m fit w (until k less own) (until (suc k) less own)
          (λ j _. until_skip less own k (suc k) (omega arith) (λ i y v. let q : i ≡ k = omega arith in ap less q ∙ s ∙ ap own (sym q)) j) x in
          record { bytes = ap (λ (y : Bool). pick y (replaced t used start (start + old) bytes) t) c ∙ r.bytes; long = omega (arith, r.long, l) }

      short-put : leb (length bytes) old ≡ true → Short
      short-put c =
          let l = leb-true (length bytes) old c in
          let f : ℕ → List ℕ = until k less own in
          let end_is : start + old ≡ shift a e f (suc k) (e k) = omega (arith, es, eo, less-span) in
          let s : less k ≡ bytes = lesser-new m fit w k (omega (arith, own-size m fit w k below, ap length new_is, eo, l)) ∙ new_is in
          let g : (j : ℕ) → j < n → with f k bytes j ≡ until (suc k) less own j = λ j _. ap (λ (y : List ℕ). with f k y j) (sym s) ∙ until-with less own k j in
          let u = laid_same m fit (with f k bytes) (until (suc k) less own) g in
          let r = holds_same m fit w (with f k bytes) (until (suc k) less own) g
          (replaced-as f k below bytes x (es ∙ sym (less-start m fit w k below)) end_is
          (omega (arith, way-shorter m fit w k, lent))
          (omega (arith, ap length u, way-shorter m fit w (suc k), lent))
          (omega (arith, way-shorter m fit w k, used-is))) in
          record {
            bytes = ap (λ (y : Bool). pick y (replaced t used start (start + old) bytes) t) c ∙ r.bytes;
            long = omega (arith, r.long, l, es, eo, less-fits x);
          }

      pub less-more : Short
      less-more = either-bool (leb (length bytes) old) short-put short-stays

    -- ---- where it lengthens

    module _ {t : List ℕ} {used start old : ℕ} (x : Holds m fit w (until k new less) t used) (es : start ≡ a k + grown_to vl w k - shrunk_to vl w k) (eo : old ≡ old_size vl k) where
      new-span : old < length bytes → start + old ≡ shift a e (until k new less) (suc k) (e k)
      new-span l =
          let s = lesser-own m fit w k (omega (arith, own-size m fit w k below, ap length new_is, eo, l)) in
          ap₂ (λ (y v : ℕ). y + v) (es ∙ sym (new-start m fit w k below)) (eo ∙ sym (own-size m fit w k below) ∙ ap length (sym s) ∙ sym (ap length (until-from new less k k (omega arith))))
          ∙ sym (value-size a e n (order m fit) (apart m fit) (until k new less) k below)

      pub new-starts : start ≤ used
      new-starts = omega (arith, es, new-start m fit w k below, value-size a e n (order m fit) (apart m fit) (until k new less) k below, x.long, value-inside m fit (until k new less) k below)

      pub new-fits : old < length bytes → start + old ≤ used
      new-fits l = omega (arith, x.long, new-span l, value-inside m fit (until k new less) k below)

      abbrev Long : Type 0
      Long = Holds m fit w (until (suc k) new less) (longer_put t used start old bytes) (used + (length bytes - old))

      long-stays : ltb old (length bytes) ≡ false → Long
      long-stays c =
          let l = ltb-false old (length bytes) c in
          let s = lesser-new m fit w k (omega (arith, own-size m fit w k below, ap length new_is, eo, l)) in
          let r = holds_same m fit w (until k new less) (until (suc k) new less)
          (λ j _. until_skip new less k (suc k) (omega arith) (λ i y v. let q : i ≡ k = omega arith in ap new q ∙ sym s ∙ ap less (sym q)) j) x in
          record { bytes = ap (λ (y : Bool). pick y (replaced t used start (start + old) bytes) t) c ∙ r.bytes; long = omega (arith, r.long, l) }

      long-put : length (laid_text m new) ≤ length m.text → ltb old (length bytes) ≡ true → Long
      long-put room c =
          let l = ltb-true old (length bytes) c in
          let f : ℕ → List ℕ = until k new less in
          let g : (j : ℕ) → j < n → with f k bytes j ≡ until (suc k) new less j = λ j _. ap (λ (y : List ℕ). with f k y j) (sym new_is) ∙ until-with new less k j in
          let u = laid_same m fit (with f k bytes) (until (suc k) new less) g in
          let d = edited-length m fit f k below bytes in
          let r = holds_same m fit w (with f k bytes) (until (suc k) new less) g
          (replaced-as f k below bytes x (es ∙ sym (new-start m fit w k below)) (new-span l)
          (omega (arith, way-longer m fit w k, room))
          (omega (arith, ap length u, way-longer m fit w (suc k), room))
          (omega (arith, d, es, new-start m fit w k below, new-span l, x.long, new-fits l, l))) in
          record {
            bytes = ap (λ (y : Bool). pick y (replaced t used start (start + old) bytes) t) c ∙ r.bytes;
            long = omega (arith, r.long, l, new-fits l);
          }

      pub new-more : length (laid_text m new) ≤ length m.text → Long
      new-more room = either-bool (ltb old (length bytes)) (long-put room) long-stays

      -- and the text is then no longer than the buffer
      pub new-within : length (laid_text m new) ≤ length m.text → used + (length bytes - old) ≤ length m.text
      new-within room = omega (arith, (new-more room).long, way-longer m fit w (suc k), room)
