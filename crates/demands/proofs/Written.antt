-- The exported writer: when each number is given, what a refusal leaves, and which numbers there are. Assumes nothing.
use Rattle.lists.proofs.Prelude.{ℕ, ◌<◌, Bool, true, false, List, ◌⊎◌, inl, inr, ⊎_elim, ◌≡◌, refl, ap, ◌∙◌, subst⁻¹, arith, ltb, length, lt-ltb, le-ltb}
use Rattle.tables.specs.Memory.{Memory}
use Rattle.tables.specs.Numbers.{number_of}
use Rattle.tables.specs.Record.{all_nodes, all_props}
use Rattle.tables.specs.declared.Reason.{Reason}
use Rattle.tables.specs.declared.Reason.TheVariants.{NoRoom, EmptyIdentifier, NotFitting}
use Rattle.tables.proofs.Cases.{either-bool, below_or}
use Rattle.fit.specs.Fit.{Fit}
use Rattle.fit.specs.Record.{record_in}
use Rattle.serialize.specs.Form.{writing, written, output}
use Rattle.serialize.specs.Locals.{write_answer}
use Rattle.serialize.specs.Branch.{nameless}
use Rattle.c_answers.specs.Structs.{writing_in_c}
use Rattle.c_answers.specs.declared.SgfWriting.{SgfWriting}
use Rattle.sgf.specs.ChangeInC.{WriteInC}
use Rattle.demands.specs.When.{Exactly, Writes, Unwritten, unfit, unnamed, narrow}
use Rattle.demands.specs.Lists.{OneOf, writer_numbers}
use Rattle.demands.proofs.Listed.{one_of}
use Rattle.demands.proofs.Numbers.{exactly}
use Rattle.std.specs.Prelude.{Result, Ok, Err}

module _ (m : Memory) (room : ℕ) where
  abbrev W : List ℕ
  W = writing (record_in m)

  abbrev N : Bool
  N = nameless (all_props (all_nodes (record_in m)))

  pub written-decided : Writes m room ⊎ ((x : Reason) × Unwritten m room x)
  written-decided =
      either-bool (Fit m)
      (λ f.
      either-bool N (λ n. inr (EmptyIdentifier, unnamed f n))
      (λ n. below_or room (length W) (λ l. inr (NoRoom, narrow f n l)) (λ l. inl (record { fits = f; named = n; long = l }))))
      (λ f. inr (NotFitting, unfit f))

  pub writes-answer : Writes m room → written m room ≡ Ok (length W)
  writes-answer x =
      ap (λ (b : Bool). write_answer b N (ltb room (length W)) W) x.fits
      ∙ ap (λ (b : Bool). write_answer true b (ltb room (length W)) W) x.named
      ∙ ap (λ (b : Bool). write_answer true false b W) (le-ltb room (length W) x.long)

  pub unwritten-answer : {x : Reason} → Unwritten m room x → written m room ≡ Err x
  unwritten-answer (unfit f) = ap (λ (b : Bool). write_answer b N (ltb room (length W)) W) f
  unwritten-answer (unnamed f n) = ap (λ (b : Bool). write_answer b N (ltb room (length W)) W) f ∙ ap (λ (b : Bool). write_answer true b (ltb room (length W)) W) n
  unwritten-answer (narrow f n l) =
      ap (λ (b : Bool). write_answer b N (ltb room (length W)) W) f
      ∙ ap (λ (b : Bool). write_answer true b (ltb room (length W)) W) n
      ∙ ap (λ (b : Bool). write_answer true false b W) (lt-ltb room (length W) l)

  unwritten-listed : {x : Reason} → Unwritten m room x → OneOf writer_numbers (number_of x)
  unwritten-listed (unfit f) = one_of writer_numbers 19 refl
  unwritten-listed (unnamed f n) = one_of writer_numbers 15 refl
  unwritten-listed (narrow f n l) = one_of writer_numbers 14 refl

module _ (m : Memory) (out out' : List ℕ) (r : SgfWriting) (s : WriteInC m out out' r) where
  number-wrote : Writes m (length out) → r.number ≡ 0
  number-wrote x = ap (λ (z : SgfWriting). z.number) (s.is ∙ ap writing_in_c (writes-answer m (length out) x))

  number-refused : (x : Reason) → Unwritten m (length out) x → r.number ≡ number_of x
  number-refused x u = ap (λ (z : SgfWriting). z.number) (s.is ∙ ap writing_in_c (unwritten-answer m (length out) u))

  pub writing-exactly : Exactly r.number (Writes m (length out)) (Unwritten m (length out))
  writing-exactly = exactly r.number (Writes m (length out)) (Unwritten m (length out)) (written-decided m (length out)) number-wrote number-refused

  pub writing-stays : 0 < r.number → out' ≡ out
  writing-stays l =
      ⊎_elim (λ x. absurd (omega (arith, number-wrote x)))
      (λ u. s.bytes ∙ ap (λ (w : Result ℕ Reason). output w (writing (record_in m)) out) (unwritten-answer m (length out) u.1)) (written-decided m (length out))

  pub writing-listed : OneOf writer_numbers r.number
  writing-listed =
      ⊎_elim (λ x. subst⁻¹ (OneOf writer_numbers) (number-wrote x) (one_of writer_numbers 0 refl))
      (λ u. subst⁻¹ (OneOf writer_numbers) (number-refused u.0 u.1) (unwritten-listed m (length out) u.1)) (written-decided m (length out))
