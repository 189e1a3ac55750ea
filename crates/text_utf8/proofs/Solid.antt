-- An ASCII byte that is no white space, as `[` and `]`: it stands in no longer character, and the ink ends behind it. Assumes nothing.
use Rattle.lists.proofs.Prelude.{◌≡◌, refl, sym, ap, ◌∙◌, ℕ, suc, true, false, List, leb}
use Rattle.text_chars.specs.White.{white}
use Rattle.text_utf8.specs.Text.{Ink, blank, inked, Range, any, from-a0, to-9f, from-90, to-8f, holds, Utf, whole, part, bad, utf, utfs}
use Rattle.text_utf8.proofs.Steps.{utfs-bad, bad-whole}

-- after it: bad, or ink up to here
abbrev pub Solid : ℕ → Utf → Type 0
Solid o (whole blank) = ⊥
Solid o (whole (inked a l)) = l ≡ suc o
Solid o (part k s n r c) = ⊥
Solid o (bad p) = Unit {0}

pub solid : (b : ℕ) → leb b 0x7f ≡ true → white b ≡ false → ((r : Range) → holds r b ≡ false) → (u : Utf) (o : ℕ) → Solid o (utf u o b)
solid b low dark lead (whole blank) o = rw (low, dark) refl
solid b low dark lead (whole (inked a l)) o = rw (low, dark) refl
solid b low dark lead (part k s n r c) o = rw (lead r) tt
solid b low dark lead (bad p) o = tt

pub ink-at : (v : Utf) (o : ℕ) (ys : List ℕ) (k : Ink) → Solid o v → utfs v (suc o) ys ≡ whole k → (a : ℕ) × (v ≡ whole (inked a (suc o)))
ink-at (whole blank) o ys k h e = absurd h
ink-at (whole (inked a l)) o ys k h e = (a, ap (λ (z : ℕ). whole (inked a z)) h)
ink-at (part k' s n r c) o ys k h e = absurd h
ink-at (bad p) o ys k h e = bad-whole p k (sym (utfs-bad p (suc o) ys) ∙ e)

pub solid-open : (u : Utf) (o : ℕ) → Solid o (utf u o 0x5b)
unfolding white
solid-open u o = solid 0x5b refl refl (elim [ any ↦ refl | from-a0 ↦ refl | to-9f ↦ refl | from-90 ↦ refl | to-8f ↦ refl ]) u o

pub solid-close : (u : Utf) (o : ℕ) → Solid o (utf u o 0x5d)
unfolding white
solid-close u o = solid 0x5d refl refl (elim [ any ↦ refl | from-a0 ↦ refl | to-9f ↦ refl | from-90 ↦ refl | to-8f ↦ refl ]) u o

pub close-ink : (a x o : ℕ) → utf (whole (inked a x)) o 0x5d ≡ whole (inked a (suc o))
unfolding white
close-ink a x o = refl
