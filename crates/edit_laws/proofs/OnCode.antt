-- Demand 3 of the code: calls that meet the edit's contract leave what a strict reading of the new text gives. Assumes nothing.
use Rattle.lists.proofs.Prelude.{ℕ, Bool, true, false, List, [], ◌∷◌, ◌≡◌, refl, sym, ap, ap₂, ◌∙◌, subst, subst⁻¹, length, pick}
use Rattle.tables.specs.Rows.{Tables, tables, counts_of}
use Rattle.tables.specs.declared.Reason.TheVariants.{NotFitting}
use Rattle.tables.specs.Memory.{Memory}
use Rattle.tables.specs.Memory.{Memory}
use Rattle.fit.specs.Fit.{Fit}
use Rattle.edit_answer.specs.Edit.{Outcome, refuses, gives, edit}
use Rattle.edit_answer.specs.Answer.{outcome_of, edited_for}
use Rattle.edit_answer.proofs.Judged.{new_text, new_rows}
use Rattle.edit.specs.Lent.{memory_after, EditIs}
use Rattle.edit.proofs.Given.{given}
use Rattle.fit.proofs.RecordFits.{counts-of-rows}
use Rattle.edit_laws.proofs.Left.{text-left, rows_left}
use Rattle.edit_laws.specs.Calls.{text_rows, outcome_for, memory_next, Calls, none, call}
use Rattle.edit_laws.specs.Run.{Order, after, Reads}
use Rattle.edit_laws.proofs.DemandThree.{demand-three}
use Rattle.std.specs.Prelude.{Result}
use Rattle.tables.specs.declared.Reason.{Reason}
use Rattle.tables.specs.declared.Refusal.{Refusal}

module _ (s : Memory) (x : Order) where
  abbrev B : List ℕ
  B = s.text

  abbrev Pr : List ℕ
  Pr = s.properties

  abbrev Vl : List ℕ
  Vl = s.values

  abbrev Text : List ℕ
  Text = new_text s x.value x.bytes

  abbrev Rows : Tables
  Rows = new_rows s x.value x.bytes

  -- text and rows in memory after the contract's answer are those that the definition gives
  held-given : outcome_for s x ≡ gives Text Rows → text_rows (memory_next (memory_after (outcome_for s x) s) (edited_for (outcome_for s x))) ≡ after (text_rows s) (outcome_for s x)
  held-given e =
      subst⁻¹ (λ (o : Outcome). text_rows (memory_next (memory_after o s) (edited_for o)) ≡ after (text_rows s) o) e
      (ap₂ (λ (t : List ℕ) (T : Tables). record { text = t; rows = T }) (text-left Text B s.used) (rows_left s.counts s.trees s.nodes Pr Vl _ (length x.bytes)))

  held_after : (o : Outcome) → outcome_for s x ≡ o → text_rows (memory_next (memory_after o s) (edited_for o)) ≡ after (text_rows s) o
  held_after (refuses r p) e = refl
  held_after (gives t T) e =
      let g = given s x.value x.bytes (length t) (ap edited_for (sym e)) in
      subst (λ (o : Outcome). text_rows (memory_next (memory_after o s) (edited_for o)) ≡ after (text_rows s) o) e (held-given g.is)

  pub held_next : (r : Result ℕ (Refusal Reason)) (l : Memory) → EditIs s l x.value x.bytes r → text_rows (memory_next l r) ≡ after (text_rows s) (outcome_for s x)
  held_next r l h = ap₂ (λ (q : Result ℕ (Refusal Reason)) (m : Memory). text_rows (memory_next m q)) h.answer h.memory ∙ held_after (outcome_for s x) refl

  reads-asked : Reads (text_rows s) → Reads (after (text_rows s) (outcome_for s x))
  unfolding outcome_of
  reads-asked f = go (Fit s) (demand-three (length B) (text_rows s) (x ∷ []) f)
    where
      go : (b : Bool) → Reads (after (text_rows s) (edit (length B) (text_rows s).text (text_rows s).rows x.value x.bytes))
          → Reads (after (text_rows s) (pick b (edit (length B) (text_rows s).text (text_rows s).rows x.value x.bytes) (refuses NotFitting 0)))
      go true h = h
      go false h = f

-- one call
pub call-reads : (s : Memory) (x : Order) (r : Result ℕ (Refusal Reason)) (l : Memory) → Reads (text_rows s) → EditIs s l x.value x.bytes r → Reads (text_rows (memory_next l r))
call-reads s x r l f h = subst⁻¹ Reads (held_next s x r l h) (reads-asked s x f)

-- any run of calls, refused ones of whatever number between them
pub calls-reads : (s s' : Memory) (xs : List Order) → Reads (text_rows s) → Calls s xs s' → Reads (text_rows s')
calls-reads s s' xs f none = f
calls-reads s s' xs f (call {x = x} {xs = ys} r l h k) = calls-reads (memory_next l r) s' ys (call-reads s x r l f h) k

-- the counts that the caller has are those of the reading
pub counts-reads : (s : Memory) (f : Reads (text_rows s)) → s.counts ≡ counts_of (tables f.trees)
counts-reads s f = sym (counts-of-rows s.counts s.trees s.nodes s.properties s.values) ∙ ap counts_of f.same_rows
