-- Calls on tables that fit: they fit all along, so that no call is 19, and the calls do what the definition's run of edits does. Assumes nothing.
use Rattle.lists.proofs.Prelude.{ℕ, true, List, ◌≡◌, refl, sym, ap, ◌∙◌, subst⁻¹, arith, length, ltb-false}
use Rattle.tables.specs.Rows.{Tables}
use Rattle.tables.specs.Memory.{Memory}
use Rattle.tables.specs.Memory.{Memory}
use Rattle.fit.specs.Fit.{Fit}
use Rattle.edit_answer.specs.Edit.{Outcome, refuses, gives, edit}
use Rattle.edit_answer.specs.Answer.{outcome_of, edited_for}
use Rattle.edit.specs.Lent.{memory_after, EditIs}
use Rattle.fit.proofs.Whole.{fit-lent}
use Rattle.edit_answer.proofs.Judged.{new_text, new_rows}
use Rattle.edit.proofs.Given.{given}
use Rattle.edit_laws.proofs.Left.{length-buffer-left}
use Rattle.edit_laws.proofs.Stays.{edit-stays}
use Rattle.edit_laws.specs.Calls.{text_rows, outcome_for, memory_next, Calls, none, call}
use Rattle.edit_laws.specs.Run.{TextRows, Order, after, run_edits}
use Rattle.edit_laws.proofs.OnCode.{held_next}
use Rattle.std.specs.Prelude.{Result, Ok}
use Rattle.tables.specs.declared.Reason.{Reason}
use Rattle.tables.specs.declared.Refusal.{Refusal}

-- the tables in memory fit the used text
abbrev pub Fitting : Memory → Type 0
Fitting s = Fit s ≡ true

-- no 19
outcome_fits : (s : Memory) (x : Order) → Fitting s → outcome_for s x ≡ edit (length s.text) (text_rows s).text (text_rows s).rows x.value x.bytes
unfolding outcome_of
outcome_fits s x fit = rw fit

module _ (s : Memory) (x : Order) (fit : Fitting s) where
  abbrev New : List ℕ
  New = new_text s x.value x.bytes

  abbrev Moved : Tables
  Moved = new_rows s x.value x.bytes

  -- what a call leaves fits, and as many bytes are lent
  abbrev Kept : Memory → Type 0
  Kept s' = Fitting s' × (length s'.text ≡ length s.text)

  kept-outcome : (o : Outcome) → outcome_for s x ≡ o → Kept (memory_next (memory_after o s) (edited_for o))
  kept-outcome (refuses r p) e = (fit, refl)
  kept-outcome (gives t T) e =
      let h : Ok (length t) ≡ edited_for (outcome_for s x) = ap edited_for (sym e) in
      let g = given s x.value x.bytes (length t) h in
      let i : gives t T ≡ gives New Moved = sym e ∙ g.is in
      let w : t ≡ New = cc in (
        edit-stays s (memory_after (gives t T) s) x.value x.bytes (length t)
            (record { answer = h; memory = ap (λ (o : Outcome). memory_after o s) (sym e) }),
        length-buffer-left t s.text s.used (fit-lent s fit).0
            (omega (arith, ap length w, ltb-false (length s.text) (length New) g.tests.room)),
      )

  pub call_kept : (r : Result ℕ (Refusal Reason)) (l : Memory) → EditIs s l x.value x.bytes r → Kept (memory_next l r)
  call_kept r l h =
      subst⁻¹ (λ (q : Result ℕ (Refusal Reason)). Kept (memory_next l q)) h.answer
      (subst⁻¹ (λ (m : Memory). Kept (memory_next m (edited_for (outcome_for s x)))) h.memory (kept-outcome (outcome_for s x) refl))

  -- what is held after it is what the definition's edit leaves
  pub call-edits : (r : Result ℕ (Refusal Reason)) (l : Memory) → EditIs s l x.value x.bytes r
      → text_rows (memory_next l r) ≡ after (text_rows s) (edit (length s.text) (text_rows s).text (text_rows s).rows x.value x.bytes)
  call-edits r l h = held_next s x r l h ∙ ap (after (text_rows s)) (outcome_fits s x fit)

-- tables that fit, fit after any run of calls
pub calls-fit : (s s' : Memory) (xs : List Order) → Fitting s → Calls s xs s' → Fitting s'
calls-fit s s' xs f none = f
calls-fit s s' xs f (call {x = x} {xs = ys} r l h k) = calls-fit (memory_next l r) s' ys (call_kept s x f r l h).0 k

-- and the calls are the definition's run
pub calls-run : (s s' : Memory) (xs : List Order) → Fitting s → Calls s xs s' → text_rows s' ≡ run_edits (length s.text) (text_rows s) xs
calls-run s s' xs f none = refl
calls-run s s' xs f (call {x = x} {xs = ys} r l h k) =
    let c = call_kept s x f r l h in
    calls-run (memory_next l r) s' ys c.0 k
    ∙ ap (λ (n : ℕ). run_edits n (text_rows (memory_next l r)) ys) c.1
    ∙ ap (λ (z : TextRows). run_edits (length s.text) z ys) (call-edits s x f r l h)
