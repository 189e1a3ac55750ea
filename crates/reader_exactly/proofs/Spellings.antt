-- Valid UTF-8 as trimming, the machine and the fitting rule spell it is table 3-7's. That of a reading: Exactly.strict-2, lenient-2. Assumes nothing.
use Rattle.lists.proofs.Prelude.{ℕ, ◌≡◌, refl, sym, ap, ◌∙◌, Bool, true, false, false≢true, List}
use Rattle.lists.proofs.Tests.{never}
use Rattle.text_chars.specs.Table.{WellFormed, BadFrom}
use Rattle.text_utf8.specs.Text.{Ink, blank, inked, Utf, whole, part, bad, utfs}
use Rattle.text_utf8.specs.Trim.{trim_of, trimmed}
use Rattle.text_utf8.specs.declared.Trimmed.{Trimmed}
use Rattle.text_utf8.specs.declared.Trimmed.TheVariants.{NotUtf8, Blank, Kept}
use Rattle.text_utf8.proofs.WellFormed.{bad-trimmed, trimmed-bad, well-formed-trimmed, trimmed-well-formed}
use Rattle.tables.specs.Rows.{Tables}
use Rattle.tables.specs.declared.Reason.TheVariants.{NotUtf8 as not_utf8}
use Rattle.fit.specs.Fit.{sound, valid_utf8}
use Rattle.edit_answer.specs.Edit.{refuses}
use Rattle.edit_answer.specs.Locals.{outcome}
use Rattle.reader_exactly.specs.Slicing.{Iff}

whole-not : (k : Ink) (p : ℕ) → trim_of (whole k) ≡ NotUtf8 p → ⊥
whole-not blank p e = never cc
whole-not (inked f l) p e = never cc

module _ (t : List ℕ) where
  -- the machine ends between characters
  pub whole-exactly : Iff ((k : Ink) × (utfs (whole blank) 0 t ≡ whole k)) (WellFormed t)
  unfolding trimmed
  whole-exactly = ((λ x. trimmed-well-formed t (λ p e. whole-not x.0 p (sym (ap trim_of x.1) ∙ e))), λ w. go (utfs (whole blank) 0 t) refl w)
    where
      go : (u : Utf) → utfs (whole blank) 0 t ≡ u → WellFormed t → (k : Ink) × (utfs (whole blank) 0 t ≡ whole k)
      go (whole k) e w = (k, e)
      go (part k s n r c) e w = absurd (well-formed-trimmed t w s (ap trim_of e))
      go (bad p) e w = absurd (well-formed-trimmed t w p (ap trim_of e))

  -- the fitting rule's text
  pub valid-exactly : Iff (valid_utf8 t ≡ true) (WellFormed t)
  valid-exactly = ((λ h. trimmed-well-formed t (λ p e. false≢true (sym (ap sound e) ∙ h))), λ w. go (trimmed t) refl w)
    where
      go : (x : Trimmed) → trimmed t ≡ x → WellFormed t → sound x ≡ true
      go (NotUtf8 p) e w = absurd (well-formed-trimmed t w p e)
      go Blank e w = refl
      go (Kept f l) e w = refl

  -- the new bytes of an edit that is refused neither with 16 nor with 17
  module _ (c l m : Bool) (u : List ℕ) (T : Tables) (p : ℕ) where
    to-bad : (x : Utf) → trim_of x ≡ NotUtf8 p → outcome true false x c l m u T ≡ refuses not_utf8 p
    to-bad (whole k) e = absurd (whole-not k p e)
    to-bad (part k s n r y) e = let z : s ≡ p = cc in ap (refuses not_utf8) z
    to-bad (bad q) e = let z : q ≡ p = cc in ap (refuses not_utf8) z

    whole-other : (k : Ink) (c l m : Bool) → outcome true false (whole k) c l m u T ≡ refuses not_utf8 p → ⊥
    whole-other k false l m e = never cc
    whole-other k true true m e = never cc
    whole-other k true false true e = never cc
    whole-other k true false false e = never cc

    from-bad : (x : Utf) → outcome true false x c l m u T ≡ refuses not_utf8 p → trim_of x ≡ NotUtf8 p
    from-bad (whole k) e = absurd (whole-other k c l m e)
    from-bad (part k s n r y) e = let z : s ≡ p = cc in ap NotUtf8 z
    from-bad (bad q) e = let z : q ≡ p = cc in ap NotUtf8 z

    pub edit-2 : Iff (outcome true false (utfs (whole blank) 0 t) c l m u T ≡ refuses not_utf8 p) (BadFrom t p)
    unfolding trimmed
    edit-2 = ((λ e. trimmed-bad t p (from-bad (utfs (whole blank) 0 t) e)), λ b. to-bad (utfs (whole blank) 0 t) (bad-trimmed t p b))
