-- When an edit is accepted and when each number is given: exactly as the scope says, in its order. Assumes nothing.
use Rattle.lists.proofs.Prelude.{ℕ, ◌<◌, Bool, true, false, List, ◌⊎◌, inl, inr, ⊎_elim, ◌≡◌, refl, sym, ap, ◌∙◌, subst₂, ltb, length, lt-ltb, le-ltb}
use Rattle.lists.specs.Same.{same}
use Rattle.lists.proofs.Tests.{never}
use Rattle.text_chars.specs.Table.{WellFormed, BadFrom}
use Rattle.text_utf8.specs.Text.{Ink, blank, inked, Utf, whole, part, bad, utfs}
use Rattle.text_utf8.specs.Trim.{trim_of, trimmed}
use Rattle.text_utf8.specs.declared.Trimmed.TheVariants.{NotUtf8 as Bad}
use Rattle.text_utf8.proofs.WellFormed.{well-or-bad, bad-trimmed, well-formed-trimmed}
use Rattle.lexer.specs.Closed.{closed}
use Rattle.tables.specs.Memory.{Memory}
use Rattle.tables.specs.Numbers.{text_limit}
use Rattle.tables.specs.Rows.{Tables}
use Rattle.tables.specs.declared.Reason.{Reason}
use Rattle.tables.specs.declared.Reason.TheVariants.{TextTooLong, NotUtf8, NoRoom, NoSuchNumber, GameTypeFixed, NotClosed, NotFitting}
use Rattle.tables.proofs.Cases.{either-bool, below_or, true-false}
use Rattle.fit.specs.Fit.{Fit}
use Rattle.fit.proofs.RootRows.{same-equal}
use Rattle.parser.specs.Game.{GM}
use Rattle.edit_answer.specs.Answer.{outcome_of, edited_for}
use Rattle.edit_answer.specs.Locals.{outcome}
use Rattle.edit_answer.proofs.Judged.{new_text, new_rows, answer-misfit, answer-beyond, answer-fixed, tests-are, length-new}
use Rattle.edit_laws.specs.Edits.{owner, new_length, Allowed, Forbidden, misfit, beyond, fixed, garbled, open-ended, long, full}
use Rattle.std.specs.Prelude.{Result, Ok, Err}
use Rattle.tables.specs.Refusals.{refusal}
use Rattle.tables.specs.declared.Refusal.{Refusal}
use Rattle.tables.proofs.Refusals.{err-refusal}

-- ---- the new bytes

well-ink : (t : List ℕ) → WellFormed t → (i : Ink) × (utfs (whole blank) 0 t ≡ whole i)
unfolding trimmed
well-ink t w = go (utfs (whole blank) 0 t) refl
  where
    go : (u : Utf) → utfs (whole blank) 0 t ≡ u → (i : Ink) × (utfs (whole blank) 0 t ≡ whole i)
    go (whole i) e = (i, e)
    go (part i s n r x) e = absurd (well-formed-trimmed t w s (ap trim_of e))
    go (bad p) e = absurd (well-formed-trimmed t w p (ap trim_of e))

bad-answer : (u : Utf) (c l m : Bool) (t : List ℕ) (T : Tables) (p : ℕ) → trim_of u ≡ Bad p → edited_for (outcome true false u c l m t T) ≡ Err (refusal NotUtf8 p)
bad-answer (whole blank) c l m t T p h = never cc
bad-answer (whole (inked f e)) c l m t T p h = never cc
bad-answer (part k s n r x) c l m t T p h = let z : s ≡ p = cc in ap (λ (z : ℕ). Err (refusal NotUtf8 z)) z
bad-answer (bad q) c l m t T p h = let z : q ≡ p = cc in ap (λ (z : ℕ). Err (refusal NotUtf8 z)) z

bad-shown : (t : List ℕ) (p : ℕ) → BadFrom t p → trim_of (utfs (whole blank) 0 t) ≡ Bad p
unfolding trimmed
bad-shown t p x = bad-trimmed t p x

module _ (m : Memory) (k : ℕ) (new : List ℕ) where
  abbrev Now : Result ℕ (Refusal Reason)
  Now = edited_for (outcome_of m k new)

  abbrev L : ℕ
  L = new_length m k (length new)

  abbrev Text : List ℕ
  Text = new_text m k new

  abbrev Rows : Tables
  Rows = new_rows m k new

  not-gm : (owner m k ≡ GM → ⊥) → same (owner m k) GM ≡ false
  not-gm h = either-bool (same (owner m k) GM) (λ e. absurd (h (same-equal (owner m k) GM e))) (λ e. e)

  is-gm : owner m k ≡ GM → same (owner m k) GM ≡ true
  is-gm h = ap (λ (z : List ℕ). same z GM) h

  -- the tests that are left, once the value is found and is free
  tests : Fit m ≡ true → k < m.counts.values → (owner m k ≡ GM → ⊥)
      → Now ≡ edited_for (outcome true false (utfs (whole blank) 0 new) (closed new) (ltb text_limit L) (ltb (length m.text) L) Text Rows)
  tests f b g =
      ap edited_for (tests-are m k new f b)
      ∙ ap (λ (z : Bool). edited_for (outcome true z (utfs (whole blank) 0 new) (closed new) (ltb text_limit (length Text)) (ltb (length m.text) (length Text)) Text Rows)) (not-gm g)
      ∙ ap (λ (z : ℕ). edited_for (outcome true false (utfs (whole blank) 0 new) (closed new) (ltb text_limit z) (ltb (length m.text) z) Text Rows))
      (length-new m k new f b)

  -- ---- each number is given where it is to be

  pub forbidden-given : {r : Reason} {p : ℕ} → Forbidden m k new r p → Now ≡ Err (refusal r p)
  forbidden-given (misfit f) = sym (answer-misfit m k new f)
  forbidden-given (beyond f b) = sym (answer-beyond m k new f b)
  forbidden-given (fixed f b g) = sym (answer-fixed m k new f b (sym (is-gm g)))
  forbidden-given (garbled f b g p x) = tests f b g ∙ bad-answer (utfs (whole blank) 0 new) (closed new) (ltb text_limit L) (ltb (length m.text) L) Text Rows p (bad-shown new p x)
  forbidden-given (open-ended f b g w s) = tests f b g ∙ rw ((well-ink new w).1, s)
  forbidden-given (long f b g w s l) = tests f b g ∙ rw ((well-ink new w).1, s, lt-ltb text_limit L l)
  forbidden-given (full f b g w s l o) = tests f b g ∙ rw ((well-ink new w).1, s, le-ltb text_limit L l, lt-ltb (length m.text) L o)

  pub allowed-given : Allowed m k new → Now ≡ Ok L
  allowed-given a =
      tests a.fits a.below a.free
      ∙ rw ((well-ink new a.valid).1, a.shut, le-ltb text_limit L a.short, le-ltb (length m.text) L a.room)
      (ap Ok (length-new m k new a.fits a.below))

  -- ---- and nowhere else

  abbrev Judged : Type 0
  Judged = Allowed m k new ⊎ ((r : Reason) × (p : ℕ) × Forbidden m k new r p)

  measured : Fit m ≡ true → k < m.counts.values → (owner m k ≡ GM → ⊥) → WellFormed new → closed new ≡ true → Judged
  measured f b g w s =
      below_or text_limit L (λ l. inr (TextTooLong, 0, long f b g w s l))
      (λ l.
      below_or (length m.text) L (λ o. inr (NoRoom, 0, full f b g w s l o))
      (λ o. inl (record { fits = f; below = b; free = g; valid = w; shut = s; short = l; room = o })))

  written : Fit m ≡ true → k < m.counts.values → (owner m k ≡ GM → ⊥) → Judged
  written f b g =
      ⊎_elim (λ w. either-bool (closed new) (λ s. measured f b g w s) (λ s. inr (NotClosed, 0, open-ended f b g w s)))
      (λ x. inr (NotUtf8, x.0, garbled f b g x.0 x.1)) (well-or-bad new)

  pub judged : Judged
  judged =
      either-bool (Fit m)
      (λ f.
      below_or k m.counts.values
      (λ b.
      either-bool (same (owner m k) GM) (λ g. inr (GameTypeFixed, 0, fixed f b (same-equal (owner m k) GM g)))
      (λ g. written f b (λ e. true-false (same (owner m k) GM) (is-gm e) g)))
      (λ b. inr (NoSuchNumber, 0, beyond f b)))
      (λ f. inr (NotFitting, 0, misfit f))

  pub given-forbidden : (r : Reason) (p : ℕ) → Now ≡ Err (refusal r p) → Forbidden m k new r p
  given-forbidden r p e =
      ⊎_elim (λ a. let z = sym (allowed-given a) ∙ e in never cc)
      (λ x.
      let z : Err (refusal x.0 x.1) ≡ Err (refusal r p) = sym (forbidden-given x.2) ∙ e in
      let y = err-refusal z in
      subst₂ (Forbidden m k new) y.0 y.1 x.2)
      judged

  pub given-allowed : (n : ℕ) → Now ≡ Ok n → Allowed m k new × (n ≡ L)
  given-allowed n e =
      ⊎_elim (λ a. let z : Ok L ≡ Ok n = sym (allowed-given a) ∙ e in let y : n ≡ L = cc in (a, y))
      (λ x. let z = sym (forbidden-given x.2) ∙ e in never cc)
      judged
