-- Sessions of calls of the exported edit are sessions of calls of the edit. Assumes nothing.
use Rattle.lists.proofs.Prelude.{ℕ, true, ◌≡◌, refl, sym, ap, ap₂, ◌∙◌, subst, arith, List, [], ◌∷◌, ◌++◌, length}
use Rattle.tables.specs.Memory.{Memory}
use Rattle.fit.specs.Fit.{Fit}
use Rattle.edit_answer.specs.Answer.{outcome_of, edited_for}
use Rattle.edit_answer.specs.Edit.{Outcome, refuses, gives}
use Rattle.c_answers.specs.Structs.{edit_in_c}
use Rattle.c_answers.specs.declared.SgfEdit.{SgfEdit}
use Rattle.sgf.specs.ChangeInC.{EditInC}
use Rattle.edit_laws.specs.Calls.{memory_next}
use Rattle.edit_laws.specs.Run.{Order}
use Rattle.edit_laws.proofs.CallsRun.{calls-fit}
use Rattle.edit_session.specs.InMemory.{kept_of, SameRecord}
use Rattle.edit_session.proofs.CallsUndone.{Session, empty, edit, session-undone}
use Rattle.demands.specs.Calls.{goes_on, ExportedCalls, none, call}
use Rattle.demands.specs.Sessions.{AllZero, kept_before}
use Rattle.demands.proofs.CallsShown.{goes_on_lem, calls-shown}
use Rattle.demands.proofs.Numbers.{number-some}
use Rattle.std.specs.Prelude.{Result, Ok}
use Rattle.tables.specs.declared.Reason.{Reason}
use Rattle.tables.specs.declared.Refusal.{Refusal}

-- number 0 says changed
zero-changed : (m l : Memory) (k : ℕ) (new : List ℕ) (r : SgfEdit) → EditInC m l k new r → r.number ≡ 0 → (n : ℕ) × (edited_for (outcome_of m k new) ≡ Ok n)
zero-changed m l k new r s z = go (outcome_of m k new) s.is
  where
    go : (o : Outcome) → r ≡ edit_in_c m.counts (edited_for o) → (n : ℕ) × (edited_for o ≡ Ok n)
    go (refuses x p) e = absurd (omega (arith, number-some x, ap (λ (q : SgfEdit). q.number) e, z))
    go (gives t T) e = (length t, refl)

shown-session : {m m' : Memory} {xs : List Order} (c : ExportedCalls m xs m') → AllZero c → Session m xs (kept_before c) m'
shown-session none a = empty
shown-session (call {m = m} {m'' = m'} {x = x} {xs = xs} r l s k) a =
    let z = zero-changed m l x.value x.bytes r s a.0 in
    edit z.0 l (record { answer = sym z.1; memory = s.memory })
    (subst (λ (q : Memory). Session q xs (kept_before k) m') (goes_on_lem m l x.value x.bytes r s ∙ ap (memory_next l) z.1) (shown-session k a.1))

shown-once : {m m' m'' : Memory} {xs ys : List Order} → Session m xs ys m' → (c : ExportedCalls m xs m'') → AllZero c × (kept_before c ≡ ys)
shown-once empty none = (tt, refl)
shown-once (edit {m = m} {m'' = m'} {x = x} {xs = xs} {ys = ys} n l e k) (call r l' s k') =
    let b : memory_next l (Ok n) ≡ goes_on l' r =
    ap₂ (λ (q : Memory) (z : Result ℕ (Refusal Reason)). memory_next q z) (e.memory ∙ sym s.memory) e.answer ∙ sym (goes_on_lem m l' x.value x.bytes r s) in
    let h = shown-once (subst (λ (z : Memory). Session z xs ys m') b k) k' in (
      (ap (λ (q : SgfEdit). q.number) (s.is ∙ ap (edit_in_c m.counts) (sym e.answer)), h.0),
      ap (λ (z : List Order). z ++ (kept_of m x ∷ [])) h.1,
    )

module _ {m m' m'' : Memory} {xs : List Order} (fit : Fit m ≡ true) (c : ExportedCalls m xs m') (a : AllZero c) (d : ExportedCalls m' (kept_before c) m'') where
  undone : Session m' (kept_before c) xs m'' × SameRecord m m''
  undone = session-undone fit (shown-session c a) (calls-shown d)

  pub exported-undone : AllZero d × (kept_before d ≡ xs) × SameRecord m m''
  exported-undone = let o = shown-once undone.0 d in (o.0, o.1, undone.1)

  pub exported-redone : {m''' : Memory} (e : ExportedCalls m'' xs m''') → AllZero e × (kept_before e ≡ kept_before c) × SameRecord m' m'''
  exported-redone e =
      let s = session-undone (calls-fit m m' xs fit (calls-shown c)) undone.0 (calls-shown e) in
      let o = shown-once s.0 e in
      (o.0, o.1, s.1)
