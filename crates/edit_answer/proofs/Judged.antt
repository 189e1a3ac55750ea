-- What an edit answers, test by test; and what an acceptance says. Assumes nothing.
use Rattle.lists.proofs.Prelude.{ℕ, ◌+◌, ◌-◌, ◌≤◌, ◌<◌, Bool, true, false, List, [], ◌∷◌, ◌≡◌, refl, sym, ap, ◌∙◌, subst, arith, ltb, length, lt-ltb, le-ltb, pick}
use types.Run.{OneOf, miss}
use denote.Enum.Declared.{tag_of}
use Rattle.lists.specs.Same.{same}
use Rattle.lists.proofs.Tests.{never}
use Rattle.text_utf8.specs.Text.{Ink, blank, inked, Utf, whole, part, bad, utfs}
use Rattle.text_utf8.specs.Trim.{trim_of, trimmed}
use Rattle.text_utf8.specs.declared.Trimmed.{Trimmed}
use Rattle.text_utf8.specs.declared.Trimmed.TheVariants.{NotUtf8 as Bad}
use Rattle.text_utf8.specs.contracts.Trimmed as trimmed-type
use Rattle.lexer.specs.Closed.{closed}
use Rattle.tables.specs.Numbers.{text_limit}
use Rattle.tables.specs.Rows.{ValRow, Tables}
use Rattle.tables.specs.declared.Reason.TheVariants.{TextTooLong, NotUtf8, NoRoom, NoSuchNumber, GameTypeFixed, NotClosed, NotFitting}
use Rattle.parser.specs.Game.{GM}
use Rattle.tables.specs.Columns.{val_from_at, val_to_at}
use Rattle.tables.specs.Each.{tabulate}
use Rattle.tables.specs.Memory.{Memory}
use Rattle.fit.specs.Fit.{Fit}
use Rattle.fit.specs.Record.{prop_row, val_row, rows_in, text_in}
use Rattle.edit_answer.specs.Edit.{owner_name, span_at, shifted, Outcome, refuses, edit}
use Rattle.edit_answer.specs.Locals.{outcome, AnswersBytes}
use Rattle.edit_answer.specs.Answer.{outcome_of, edited_for}
use Rattle.edit_answer.proofs.Fitting.{fit-within}
use Rattle.edit_splice.specs.Splice.{pasted}
use Rattle.edit_splice.proofs.Replaced.{length-pasted}
use Rattle.fit.proofs.Parts.{tabulate-length, tabulate-at}
use Rattle.std.specs.Prelude.{Result, Ok, Err}
use Rattle.tables.specs.Refusals.{refusal}
use Rattle.tables.specs.declared.Reason.{Reason}
use Rattle.tables.specs.declared.Refusal.{Refusal}

-- ---- the new bytes

whole_of : (u : Utf) → OneOf (1 ∷ 2 ∷ []) (tag_of trimmed-type.the_type (trim_of u)) → (i : Ink) × (u ≡ whole i)
whole_of (whole blank) z = (blank, refl)
whole_of (whole (inked f l)) z = (inked f l, refl)
whole_of (part k s n r x) z = absurd (miss (1 ∷ 2 ∷ []) 0 tt z)
whole_of (bad p) z = absurd (miss (1 ∷ 2 ∷ []) 0 tt z)

bad-at : (u : Utf) (c l m : Bool) (t : List ℕ) (T : Tables) {p : ℕ} → Bad p ≡ trim_of u → Err (refusal NotUtf8 p) ≡ edited_for (outcome true false u c l m t T)
bad-at (whole blank) c l m t T h = never cc
bad-at (whole (inked f e)) c l m t T h = never cc
bad-at (part k s n r x) c l m t T {p} h = let z : p ≡ s = cc in ap (λ (y : ℕ). Err (refusal NotUtf8 y)) z
bad-at (bad q) c l m t T {p} h = let z : p ≡ q = cc in ap (λ (y : ℕ). Err (refusal NotUtf8 y)) z

module _ (new : List ℕ) (kept room : ℕ) where
  pub bytes-bad : {p : ℕ} → Bad p ≡ trimmed new → AnswersBytes new kept room (Err (refusal NotUtf8 p))
  unfolding trimmed
  bytes-bad h t T e = bad-at (utfs (whole blank) 0 new) (closed new) (ltb text_limit (length t)) (ltb room (length t)) t T h

  module _ {x : Trimmed} (is : x ≡ trimmed new) (tag : OneOf (1 ∷ 2 ∷ []) (tag_of trimmed-type.the_type x)) where
    ink : (i : Ink) × (utfs (whole blank) 0 new ≡ whole i)
    unfolding trimmed
    ink = whole_of (utfs (whole blank) 0 new) (subst (λ (z : Trimmed). OneOf (1 ∷ 2 ∷ []) (tag_of trimmed-type.the_type z)) is tag)

    pub bytes-open : closed new ≡ false → AnswersBytes new kept room (Err (refusal NotClosed 0))
    bytes-open h t T e = rw (ink.1, h)

    pub bytes-long : closed new ≡ true → text_limit < kept + length new → AnswersBytes new kept room (Err (refusal TextTooLong 0))
    bytes-long h l t T e = rw (ink.1, h, lt-ltb text_limit (length t) (omega arith))

    pub bytes-full : closed new ≡ true → kept + length new ≤ text_limit → room < kept + length new → AnswersBytes new kept room (Err (refusal NoRoom 0))
    bytes-full h l f t T e = rw (ink.1, h, le-ltb text_limit (length t) (omega arith), lt-ltb room (length t) (omega arith))

    pub bytes_good : closed new ≡ true → kept + length new ≤ text_limit → kept + length new ≤ room → AnswersBytes new kept room (Ok (kept + length new))
    bytes_good h l f t T e = rw (ink.1, h, le-ltb text_limit (length t) (omega arith), le-ltb room (length t) (omega arith), e)

-- ---- the whole edit

module _ (m : Memory) (k : ℕ) (new : List ℕ) where
  abbrev Now : Outcome
  Now = outcome_of m k new

  abbrev pub new_text : List ℕ
  new_text = pasted (text_in m) (val_from_at m.values k) (val_to_at m.values k) new

  abbrev pub new_rows : Tables
  new_rows = shifted (rows_in m) (val_row m.values k) (length new)

  abbrev fixed : Bool
  fixed = same (owner_name (text_in m) (tabulate (prop_row m.properties) 0 m.counts.properties) k) GM

  pub answer-misfit : Fit m ≡ false → Err (refusal NotFitting 0) ≡ edited_for Now
  unfolding outcome_of
  answer-misfit h = rw h

  count-is : length (tabulate (val_row m.values) 0 m.counts.values) ≡ m.counts.values
  count-is = tabulate-length (val_row m.values) 0 m.counts.values

  module _ (fit : Fit m ≡ true) where
    pub answer-beyond : m.counts.values ≤ k → Err (refusal NoSuchNumber 0) ≡ edited_for Now
    unfolding outcome_of
    answer-beyond h = rw (fit, count-is, le-ltb k m.counts.values h)

    module _ (below : k < m.counts.values) where
      span-is : span_at (tabulate (val_row m.values) 0 m.counts.values) k ≡ val_row m.values k
      span-is = let e : 0 + k ≡ k = omega arith in tabulate-at (val_row m.values) 0 m.counts.values k (record { from = 0; to = 0 }) below ∙ ap (val_row m.values) e

      -- the tests that are left, once the value is found
      pub tests-are : Now ≡ outcome true fixed (utfs (whole blank) 0 new) (closed new) (ltb text_limit (length new_text)) (ltb (length m.text) (length new_text)) new_text new_rows
      unfolding outcome_of
      tests-are =
          ap (λ (z : Bool). pick z (edit (length m.text) (text_in m) (rows_in m) k new) (refuses NotFitting 0)) fit
          ∙ ap (λ (z : ValRow). outcome (ltb k (length (tabulate (val_row m.values) 0 m.counts.values))) fixed (utfs (whole blank) 0 new) (closed new)
          (ltb text_limit (length (pasted (text_in m) z.from z.to new))) (ltb (length m.text) (length (pasted (text_in m) z.from z.to new))) (pasted (text_in m) z.from z.to new) (shifted (rows_in m) z (length new))) span-is
          ∙ ap (λ (z : Bool). outcome z fixed (utfs (whole blank) 0 new) (closed new) (ltb text_limit (length new_text)) (ltb (length m.text) (length new_text)) new_text new_rows)
          (ap (ltb k) count-is ∙ lt-ltb k m.counts.values below)

      pub answer-fixed : true ≡ fixed → Err (refusal GameTypeFixed 0) ≡ edited_for Now
      answer-fixed h = sym (ap edited_for tests-are ∙ ap (λ (z : Bool). edited_for (outcome true z (utfs (whole blank) 0 new) (closed new) (ltb text_limit (length new_text)) (ltb (length m.text) (length new_text)) new_text new_rows)) (sym h))

      pub length-new : length new_text ≡ val_from_at m.values k + length new + (m.used - val_to_at m.values k)
      length-new = length-pasted m.text new m.used (val_from_at m.values k) (val_to_at m.values k) (fit-within m fit k below)

      pub answer-new-bytes : false ≡ fixed → {s : ℕ} → s ≡ val_to_at m.values k - val_from_at m.values k → {r : Result ℕ (Refusal Reason)} → AnswersBytes new (m.used - s) (length m.text) r → r ≡ edited_for Now
      answer-new-bytes h {s} es w =
          let x = fit-within m fit k below in
          let o = x.order in
          let i = x.inside in
          w new_text new_rows (omega (arith, length-new))
          ∙ ap (λ (z : Bool). edited_for (outcome true z (utfs (whole blank) 0 new) (closed new) (ltb text_limit (length new_text)) (ltb (length m.text) (length new_text)) new_text new_rows)) h
          ∙ sym (ap edited_for tests-are)
