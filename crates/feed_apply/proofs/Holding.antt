-- The buffer with some values as corrected: values that are not corrected, and the passage from sweep to sweep. Assumes nothing.
use Rattle.lists.proofs.Prelude.{ℕ, ◌≤◌, ◌<◌, true, ◌≡◌, sym, ap, ◌∙◌, arith, List, length, length-take-le}
use Rattle.tables.specs.Columns.{val_from_at, val_to_at}
use Rattle.tables.specs.Flat.{over}
use Rattle.tables.specs.Memory.{Memory}
use Rattle.fit.specs.Fit.{Fit}
use Rattle.fit.proofs.Whole.{fit-lent}
use Rattle.edit_splice.specs.Splice.{cleared}
use Rattle.feed.specs.Feed.{listing}
use Rattle.feed.specs.Find.{found_in}
use Rattle.feed_laid.specs.OfMemory.{laid_text, own_bytes}
use Rattle.feed_laid.proofs.OverMemory.{own-text}
use Rattle.feed_laws.specs.Corrected.{bytes_for, new_bytes}
use Rattle.feed_laws.specs.LocalsSweep.{until, lesser}
use Rattle.feed_laws.proofs.Cleared.{own-over}
use Rattle.feed_laws.proofs.Held.{held_text}
use Rattle.feed_laws.proofs.Partly.{until-below, until-from, until_skip, laid_same, lesser-same}
use Rattle.feed_apply.specs.LocalsAlong.{Uncorrected}
use Rattle.std.specs.Prelude.{Option, None}

module _ (m : Memory) (fit : Fit m ≡ true) (w : List ℕ) where
  abbrev vl : List ℕ
  vl = m.values

  abbrev n : ℕ
  n = m.counts.values

  abbrev a : ℕ → ℕ
  a = val_from_at vl

  abbrev e : ℕ → ℕ
  e = val_to_at vl

  abbrev new : ℕ → List ℕ
  new = new_bytes m w

  abbrev own : ℕ → List ℕ
  own = own_bytes m

  abbrev less : ℕ → List ℕ
  less = lesser m w

  -- ---- the buffer, and how long its text is

  pub record Holds (f : ℕ → List ℕ) (t : List ℕ) (used : ℕ) : Type 0 where
    pub bytes : t ≡ held_text m fit f
    pub long : used ≡ length (laid_text m f)

  pub holds_same : (f g : ℕ → List ℕ) → ((j : ℕ) → j < n → f j ≡ g j) → {t : List ℕ} {used : ℕ} → Holds f t used → Holds g t used
  holds_same f g h x =
      let s = laid_same m fit f g h in
      record { bytes = x.bytes ∙ ap (λ (z : List ℕ). over (cleared z m.used) m.text) s; long = x.long ∙ ap length s }

  uncorrected-own : (j : ℕ) → found_in (listing w).entries j ≡ None → new j ≡ own j
  uncorrected-own j f = ap (λ (x : Option (ℕ × ℕ)). bytes_for w x (own j)) f

  pub holds-own : Holds (until 0 less own) m.text m.used
  holds-own =
      let s = own-text m fit in
      let l = (fit-lent m fit).0 in
      holds_same own (until 0 less own) (λ j _. sym (until-from less own 0 j (omega arith)))
      (record {
        bytes = sym (ap (λ (z : List ℕ). over (cleared z m.used) m.text) s ∙ own-over m.text m.used l);
        long = sym (ap length s ∙ length-take-le m.used m.text l);
      })

  pub less-skip : (k i : ℕ) → k ≤ i → Uncorrected w k i → {t : List ℕ} {used : ℕ} → Holds (until k less own) t used → Holds (until i less own) t used
  less-skip k i h u = holds_same (until k less own) (until i less own) (λ j _. until_skip less own k i h (λ r x y. lesser-same m fit w r (uncorrected-own r (u r x y))) j)

  pub new-skip : (k i : ℕ) → k ≤ i → Uncorrected w k i → {t : List ℕ} {used : ℕ} → Holds (until k new less) t used → Holds (until i new less) t used
  new-skip k i h u =
      holds_same (until k new less) (until i new less)
      (λ j _. until_skip new less k i h (λ r x y. let o = uncorrected-own r (u r x y) in o ∙ sym (lesser-same m fit w r o)) j)

  -- from the one sweep to the other, and to the end
  pub less-new : (k : ℕ) → n ≤ k → {t : List ℕ} {used : ℕ} → Holds (until k less own) t used → Holds (until 0 new less) t used
  less-new k h = holds_same (until k less own) (until 0 new less) (λ j l. until-below less own k j (omega arith) ∙ sym (until-from new less 0 j (omega arith)))

  pub new-done : (k : ℕ) → n ≤ k → {t : List ℕ} {used : ℕ} → Holds (until k new less) t used → Holds new t used
  new-done k h = holds_same (until k new less) new (λ j l. until-below new less k j (omega arith))
