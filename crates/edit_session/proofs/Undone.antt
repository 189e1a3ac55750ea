-- The old bytes put back in reverse order: accepted at every step, and the first text and rows again; what undoes that is the session. Assumes nothing.
use Rattle.lists.proofs.Prelude.{ℕ, ◌≡◌, refl, sym, ap, ap₂, ◌∙◌, subst⁻¹, List, [], ◌∷◌, ◌++◌, append_assoc, append-nil}
use Rattle.tables.specs.Rows.{Tables}
use Rattle.edit_answer.specs.Edit.{Outcome, refuses, gives}
use Rattle.edit_laws.specs.Run.{TextRows, Order, after, run_edits}
use Rattle.edit_session.specs.Session.{Granted, asked, AllGranted, putting_back, undoing}

-- ---- runs one behind the other

pub run-append : (room : ℕ) (s : TextRows) (xs ys : List Order) → run_edits room s (xs ++ ys) ≡ run_edits room (run_edits room s xs) ys
run-append room s [] ys = refl
run-append room s (x ∷ xs) ys = run-append room (after s (asked room s x)) xs ys

pub granted-append : (room : ℕ) (s : TextRows) (xs ys : List Order) → AllGranted room s xs → AllGranted room (run_edits room s xs) ys → AllGranted room s (xs ++ ys)
granted-append room s [] ys a b = b
granted-append room s (x ∷ xs) ys a b = (a.0, granted-append room (after s (asked room s x)) xs ys a.1 b)

-- ---- by one step: I holds all along, and gives the way back

-- the old bytes give what was there, and would keep what was put
pub record Back (room : ℕ) (s : TextRows) (x : Order) : Type 0 where
  pub gone : (t : List ℕ) (T : Tables) → asked room s x ≡ gives t T → asked room (record { text = t; rows = T }) (putting_back s x) ≡ gives s.text s.rows
  pub again : (t : List ℕ) (T : Tables) → asked room s x ≡ gives t T → putting_back (record { text = t; rows = T }) (putting_back s x) ≡ x

module _ (room : ℕ) (I : TextRows → Type 0) (back : (s : TextRows) (x : Order) → I s → Back room s x)
    (on : (s : TextRows) (x : Order) → I s → Granted (asked room s x) → I (after s (asked room s x))) where
  step_gone : (s : TextRows) (x : Order) → I s → (o : Outcome) → asked room s x ≡ o → Granted o → asked room (after s o) (putting_back s x) ≡ gives s.text s.rows
  step_gone s x i (refuses r p) e a = absurd a
  step_gone s x i (gives t T) e a = (back s x i).gone t T e

  step-again : (s : TextRows) (x : Order) → I s → (o : Outcome) → asked room s x ≡ o → Granted o → putting_back (after s o) (putting_back s x) ≡ x
  step-again s x i (refuses r p) e a = absurd a
  step-again s x i (gives t T) e a = (back s x i).again t T e

  pub invariant-undone : (s : TextRows) (xs : List Order) → I s → AllGranted room s xs
      → AllGranted room (run_edits room s xs) (undoing room s xs) × (run_edits room (run_edits room s xs) (undoing room s xs) ≡ s)
  invariant-undone s [] i a = (tt, refl)
  invariant-undone s (x ∷ xs) i a =
      let s1 = after s (asked room s x) in
      let r = invariant-undone s1 xs (on s x i a.0) a.1 in
      let b : asked room s1 (putting_back s x) ≡ gives s.text s.rows = step_gone s x i (asked room s x) refl a.0 in
      let end = run_edits room s1 xs in (
        granted-append room end (undoing room s1 xs) (putting_back s x ∷ []) r.0
            (subst⁻¹ (λ (z : TextRows). AllGranted room z (putting_back s x ∷ [])) r.1 (subst⁻¹ Granted b tt, tt)),
        run-append room end (undoing room s1 xs) (putting_back s x ∷ [])
            ∙ ap (λ (z : TextRows). run_edits room z (putting_back s x ∷ [])) r.1
            ∙ ap (after s1) b,
      )

  -- I holds at the end too
  pub invariant-holds : (s : TextRows) (xs : List Order) → I s → AllGranted room s xs → I (run_edits room s xs)
  invariant-holds s [] i a = i
  invariant-holds s (x ∷ xs) i a = invariant-holds (after s (asked room s x)) xs (on s x i a.0) a.1

-- ---- what undoes the undoing

undoing-append : (room : ℕ) (s : TextRows) (xs ys : List Order) → undoing room s (xs ++ ys) ≡ undoing room (run_edits room s xs) ys ++ undoing room s xs
undoing-append room s [] ys = sym (append-nil (undoing room s ys))
undoing-append room s (x ∷ xs) ys =
    ap (λ (z : List Order). z ++ (putting_back s x ∷ [])) (undoing-append room (after s (asked room s x)) xs ys)
    ∙ append_assoc (undoing room (run_edits room (after s (asked room s x)) xs) ys) (undoing room (after s (asked room s x)) xs) (putting_back s x ∷ [])

module _ (room : ℕ) (I : TextRows → Type 0) (back : (s : TextRows) (x : Order) → I s → Back room s x)
    (on : (s : TextRows) (x : Order) → I s → Granted (asked room s x) → I (after s (asked room s x))) where
  pub invariant-redone : (s : TextRows) (xs : List Order) → I s → AllGranted room s xs → undoing room (run_edits room s xs) (undoing room s xs) ≡ xs
  invariant-redone s [] i a = refl
  invariant-redone s (x ∷ xs) i a =
      let s1 = after s (asked room s x) in
      let j = on s x i a.0 in
      let end = run_edits room s1 xs in
      undoing-append room end (undoing room s1 xs) (putting_back s x ∷ [])
      ∙ ap (λ (z : TextRows). putting_back z (putting_back s x) ∷ undoing room end (undoing room s1 xs)) (invariant-undone room I back on s1 xs j a.1).1
      ∙ ap₂ (λ (y : Order) (ys : List Order). y ∷ ys) (step-again room I back on s x i (asked room s x) refl a.0) (invariant-redone s1 xs j a.1)
