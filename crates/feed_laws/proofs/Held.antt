-- The buffer of a text with some of its values as corrected: the bytes of one more value replaced. Assumes nothing.
use Rattle.lists.proofs.Prelude.{ℕ, suc, ◌+◌, ◌-◌, ◌≤◌, ◌<◌, true, ◌≡◌, sym, ap, ◌∙◌, arith, List, ◌++◌, length, take, drop, length-append, length-drop, length-take-le}
use Rattle.tables.specs.Columns.{val_from_at, val_to_at}
use Rattle.tables.specs.Flat.{over}
use Rattle.tables.specs.Memory.{Memory}
use Rattle.tables.specs.Rows.{ValRow}
use Rattle.fit.specs.Fit.{Fit}
use Rattle.fit.specs.Record.{rows_in, text_in}
use Rattle.fit.proofs.Whole.{fit-lent}
use Rattle.edit_splice.specs.Locals.{Replaceable}
use Rattle.edit_splice.specs.Splice.{pasted, cleared, replaced}
use Rattle.edit_splice.proofs.May.{replaced-is}
use Rattle.edit_laws.proofs.Left.{text-left, length-buffer-left}
use Rattle.feed_laid.specs.Laid.{with, shift}
use Rattle.feed_laid.specs.OfMemory.{laid_text}
use Rattle.feed_laid.proofs.OverMemory.{order, apart, count, span, ahead, text-edited}
use Rattle.feed_laid.proofs.Places.{value-size}
use Rattle.feed_laid.proofs.Texts.{before, behind, laid-split}
use Rattle.feed_laws.proofs.Cleared.{cleared-again}

module _ (m : Memory) (fit : Fit m ≡ true) where
  abbrev a : ℕ → ℕ
  a = val_from_at m.values

  abbrev e : ℕ → ℕ
  e = val_to_at m.values

  -- the buffer, with f k for the bytes of each value k
  abbrev pub held_text : (ℕ → List ℕ) → List ℕ
  held_text f = over (cleared (laid_text m f) m.used) m.text

  pub held-used : (f : ℕ → List ℕ) → take (length (laid_text m f)) (held_text f) ≡ laid_text m f
  held-used f = text-left (laid_text m f) m.text m.used

  pub held-length : (f : ℕ → List ℕ) → length (laid_text m f) ≤ length m.text → length (held_text f) ≡ length m.text
  held-length f h = length-buffer-left (laid_text m f) m.text m.used (fit-lent m fit).0 h

  module _ (f : ℕ → List ℕ) (k : ℕ) (below : k < m.counts.values) where
    abbrev q : ℕ
    q = shift a e f k (a k)

    abbrev E : ℕ
    E = shift a e f (suc k) (e k)

    -- a value lies in its text
    pub value-inside : E ≤ length (laid_text m f)
    value-inside =
        let x = before (text_in m) f 0 0 k (rows_in m).vals in
        let y = behind (text_in m) f 0 k (rows_in m).vals in
        let z : 0 + k ≡ k = omega arith in
        let s : laid_text m f ≡ x ++ (f k ++ y) = laid-split (text_in m) f 0 0 k (rows_in m).vals (omega (arith, count m fit, below)) ∙ ap (λ (i : ℕ). x ++ (f i ++ y)) z in
        omega (arith, ap length s, length-append x (f k ++ y), length-append (f k) y, ahead m fit f k below, value-size a e m.counts.values (order m fit) (apart m fit) f k below)

    module _ (new : List ℕ) where
      abbrev g : ℕ → List ℕ
      g = with f k new

      edited : pasted (laid_text m f) q E new ≡ laid_text m g
      edited = sym (ap (λ (z : ValRow). pasted (laid_text m f) z.from z.to new) (span m fit f k below)) ∙ text-edited m fit f k below new

      pub edited-length : length (laid_text m g) ≡ q + length new + (length (laid_text m f) - E)
      edited-length =
          let v = value-size a e m.counts.values (order m fit) (apart m fit) f k below in
          ap length (sym edited)
          ∙ length-append (take q (laid_text m f)) (new ++ drop E (laid_text m f))
          ∙ omega (arith, length-append new (drop E (laid_text m f)), length-drop E (laid_text m f), length-take-le q (laid_text m f) (omega (arith, value-inside, v)))

      -- the part replaced in place, where neither text is longer than the buffer
      pub held-replaced : length (laid_text m f) ≤ length m.text → length (laid_text m g) ≤ length m.text
          → length (laid_text m f) ≤ length (laid_text m g) + (m.used - length (laid_text m g)) → replaced (held_text f) (length (laid_text m f)) q E new ≡ held_text g
      held-replaced h i l =
          let v = value-size a e m.counts.values (order m fit) (apart m fit) f k below in
          let b = held-length f h in
          let r : Replaceable (held_text f) (length (laid_text m f)) q E (length new) =
          record { within = record { order = omega (arith, v); inside = value-inside; lent = omega (arith, b, h) }; room = omega (arith, b, i, edited-length) } in
          let c : List ℕ = cleared (laid_text m g) (length (laid_text m f)) in
          let z : 0 + length c ≡ length c = omega arith in
          replaced-is (held_text f) (length (laid_text m f)) q E new r
          ∙ ap (λ (t : List ℕ). cleared (pasted t q E new) (length (laid_text m f)) ++ drop (0 + length (cleared (pasted t q E new) (length (laid_text m f)))) (held_text f)) (held-used f)
          ∙ ap (λ (t : List ℕ). cleared t (length (laid_text m f)) ++ drop (0 + length (cleared t (length (laid_text m f)))) (held_text f)) edited
          ∙ ap (λ (j : ℕ). c ++ drop j (held_text f)) z
          ∙ cleared-again (laid_text m f) (laid_text m g) m.text m.used l
