-- The exported edit, and the edit itself: accepted, refused and why; what is left; which numbers there are. Assumes nothing.
use Rattle.lists.proofs.Prelude.{ℕ, ◌+◌, ◌-◌, ◌≤◌, ◌<◌, List, inl, inr, ◌↔◌, ⊎_elim, ◌≡◌, refl, sym, ap, ◌∙◌, subst⁻¹, arith, length}
use Rattle.tables.specs.Memory.{Memory}
use Rattle.tables.specs.Numbers.{number_of}
use Rattle.tables.specs.declared.Reason.{Reason}
use Rattle.edit_answer.specs.Answer.{outcome_of}
use Rattle.edit.specs.Lent.{EditIs}
use Rattle.c_answers.specs.Structs.{edit_in_c, no_counts}
use Rattle.c_answers.specs.declared.SgfEdit.{SgfEdit}
use Rattle.sgf.specs.ChangeInC.{EditInC}
use Rattle.edit_laws.specs.Edits.{new_length, Allowed, Forbidden, misfit, beyond, fixed, garbled, open-ended, long, full, Moves, Edits}
use Rattle.edit_laws.proofs.EditAccepted.{allowed-leaves}
use Rattle.edit_laws.proofs.Judging.{allowed-given, forbidden-given, given-allowed, given-forbidden, judged}
use Rattle.demands.specs.Calls.{counts_in}
use Rattle.demands.specs.When.{Exactly}
use Rattle.demands.specs.Lists.{OneOf, edit_numbers}
use Rattle.demands.proofs.Listed.{one_of}
use Rattle.demands.proofs.Numbers.{exactly}
use Rattle.demands.proofs.Refusals.{edit-leaves}
use Rattle.std.specs.Prelude.{Result, Ok, Err}
use Rattle.tables.specs.Refusals.{refusal}
use Rattle.tables.specs.declared.Refusal.{Refusal}

-- ---- the edit

module _ (m m' : Memory) (k : ℕ) (new : List ℕ) (r : Result ℕ (Refusal Reason)) (s : EditIs m m' k new r) where
  pub edit-accepts : Allowed m k new → (r ≡ Ok (new_length m k (length new))) × Edits m k new m'
  edit-accepts a = (s.answer ∙ allowed-given m k new a, allowed-leaves m k new a m' s.memory)

  pub edit-accepted-only : (n : ℕ) → r ≡ Ok n → Allowed m k new × (n ≡ new_length m k (length new))
  edit-accepted-only n e = given-allowed m k new n (sym s.answer ∙ e)

  pub edit-refuses : (x : Reason) (p : ℕ) → (r ≡ Err (refusal x p)) ↔ Forbidden m k new x p
  edit-refuses x p = ((λ e. given-forbidden m k new x p (sym s.answer ∙ e)), (λ f. s.answer ∙ forbidden-given m k new f))

-- ---- as it is exported

forbidden-listed : {m : Memory} {k : ℕ} {new : List ℕ} {x : Reason} {p : ℕ} → Forbidden m k new x p → OneOf edit_numbers (number_of x)
forbidden-listed (misfit f) = one_of edit_numbers 19 refl
forbidden-listed (beyond f b) = one_of edit_numbers 16 refl
forbidden-listed (fixed f b g) = one_of edit_numbers 17 refl
forbidden-listed (garbled f b g p x) = one_of edit_numbers 2 refl
forbidden-listed (open-ended f b g w c) = one_of edit_numbers 18 refl
forbidden-listed (long f b g w c l) = one_of edit_numbers 1 refl
forbidden-listed (full f b g w c l o) = one_of edit_numbers 14 refl

module _ (m m' : Memory) (k : ℕ) (new : List ℕ) (r : SgfEdit) (s : EditInC m m' k new r) where
  abbrev Because : Reason → Type 0
  Because x = (p : ℕ) × Forbidden m k new x p × (r.place ≡ p)

  shown-allowed : Allowed m k new → r ≡ edit_in_c m.counts (Ok (new_length m k (length new)))
  shown-allowed a = s.is ∙ ap (edit_in_c m.counts) (allowed-given m k new a)

  shown-forbidden : {x : Reason} {p : ℕ} → Forbidden m k new x p → r ≡ edit_in_c m.counts (Err (refusal x p))
  shown-forbidden f = s.is ∙ ap (edit_in_c m.counts) (forbidden-given m k new f)

  pub edit-exactly : Exactly r.number (Allowed m k new) Because
  edit-exactly =
      exactly r.number (Allowed m k new) Because
      (⊎_elim (λ a. inl a) (λ f. inr (f.0, (f.1, f.2, ap (λ (z : SgfEdit). z.place) (shown-forbidden f.2)))) (judged m k new))
      (λ a. ap (λ (z : SgfEdit). z.number) (shown-allowed a)) (λ x f. ap (λ (z : SgfEdit). z.number) (shown-forbidden f.1))

  pub edit-stays : 0 < r.number → m' ≡ m
  edit-stays l =
      ⊎_elim (λ a. absurd (omega (arith, ap (λ (z : SgfEdit). z.number) (shown-allowed a))))
      (λ f. edit-leaves (outcome_of m k new) m m' f.0 f.1 (sym (forbidden-given m k new f.2)) s.memory) (judged m k new)

  pub edit-zeros : 0 < r.number → (r.used ≡ 0) × (counts_in r ≡ no_counts)
  edit-zeros l =
      ⊎_elim (λ a. absurd (omega (arith, ap (λ (z : SgfEdit). z.number) (shown-allowed a))))
      (λ f. let e = shown-forbidden f.2 in (ap (λ (z : SgfEdit). z.used) e, ap counts_in e)) (judged m k new)

  pub edit-listed : OneOf edit_numbers r.number
  edit-listed =
      ⊎_elim (λ a. subst⁻¹ (OneOf edit_numbers) (ap (λ (z : SgfEdit). z.number) (shown-allowed a)) (one_of edit_numbers 0 refl))
      (λ f. subst⁻¹ (OneOf edit_numbers) (ap (λ (z : SgfEdit). z.number) (shown-forbidden f.2)) (forbidden-listed f.2)) (judged m k new)

  -- number 0, the new used length and the counts; and all of memory
  pub edit-changes : Allowed m k new → (r.number ≡ 0) × (r.used ≡ new_length m k (length new)) × (counts_in r ≡ m.counts) × Edits m k new m'
  edit-changes a =
      let e = shown-allowed a in
      (ap (λ (z : SgfEdit). z.number) e, ap (λ (z : SgfEdit). z.used) e, ap counts_in e, allowed-leaves m k new a m' s.memory)

-- ---- a place of another span, by cases of where it lies

pub places-said : (q e n p p' : ℕ) → q ≤ e → Moves q e n p p' → (p ≤ q → p' ≡ p) × (e ≤ p → p' ≡ p - e + (q + n))
places-said q e n p p' o (inl x) = ((λ _. x.1), (λ h. absurd (omega (arith, x.0))))
places-said q e n p p' o (inr x) = ((λ h. absurd (omega (arith, x.0))), (λ _. x.1))
