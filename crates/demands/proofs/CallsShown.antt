-- Runs of calls of the exported edit are runs of calls of the edit. Assumes nothing.
use Rattle.lists.proofs.Prelude.{ℕ, Bool, List, ◌≡◌, refl, sym, ap, ◌∙◌, subst, arith, length, ne_eqb, pick}
use Rattle.tables.specs.Memory.{Memory, memory}
use Rattle.tables.specs.Numbers.{number_of}
use Rattle.tables.specs.declared.Counts.{Counts}
use Rattle.edit_answer.specs.Answer.{outcome_of, edited_for}
use Rattle.edit_answer.specs.Edit.{Outcome, refuses, gives}
use Rattle.edit.specs.Lent.{memory_after}
use Rattle.c_answers.specs.Structs.{edit_in_c}
use Rattle.c_answers.specs.declared.SgfEdit.{SgfEdit}
use Rattle.sgf.specs.ChangeInC.{EditInC}
use Rattle.edit_laws.specs.Calls as edit
use Rattle.edit_laws.specs.Run.{Order}
use Rattle.demands.specs.Calls.{counts_in, goes_on, ExportedCalls, none, call}
use Rattle.demands.proofs.Numbers.{number-some}
use Rattle.std.specs.Prelude.{Err}
use Rattle.tables.specs.Refusals.{refusal}

-- the caller goes on with the same memory
pub goes_on_lem : (m m' : Memory) (k : ℕ) (new : List ℕ) (r : SgfEdit) → EditInC m m' k new r → goes_on m' r ≡ edit.memory_next m' (edited_for (outcome_of m k new))
goes_on_lem m m' k new r s = go (outcome_of m k new) s.is s.memory
  where
    go : (o : Outcome) → r ≡ edit_in_c m.counts (edited_for o) → m' ≡ memory_after o m → goes_on m' r ≡ edit.memory_next m' (edited_for o)
    go (refuses x p) e l =
        ap (goes_on m') e
        ∙ ap (λ (b : Bool). pick b (memory m'.text 0 (counts_in (edit_in_c m.counts (Err (refusal x p)))) m'.trees m'.nodes m'.properties m'.values) m')
        (ne_eqb (number_of x) 0 (λ z. omega (arith, z, number-some x)))
    go (gives t T) e l =
        ap (goes_on m') e
        ∙ ap (λ (c : Counts). memory m'.text (length t) c m'.trees m'.nodes m'.properties m'.values) (sym (ap (λ (z : Memory). z.counts) l))

pub calls-shown : {m m'' : Memory} {xs : List Order} → ExportedCalls m xs m'' → edit.Calls m xs m''
calls-shown none = edit.none
calls-shown (call {m = m} {m'' = m''} {x = x} {xs = xs} r m' s k) =
    edit.call (edited_for (outcome_of m x.value x.bytes)) m' (record { answer = refl; memory = s.memory })
    (subst (λ (z : Memory). edit.Calls z xs m'') (goes_on_lem m m' x.value x.bytes r s) (calls-shown k))
