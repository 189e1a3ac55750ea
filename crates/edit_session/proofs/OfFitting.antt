-- Sessions over tables that fit, and so of a record that any reading gives: undone, and redone. Assumes nothing.
use Rattle.lists.proofs.Prelude.{ℕ, ◌-◌, ◌≤◌, Bool, true, ◌≡◌, refl, ap, ap₂, ◌∙◌, subst, arith, List, [], ◌++◌, length, take, slice, replicate, length-append, length-replicate, length-take-le, take_at}
use Rattle.tables.specs.Flat.{flat_trees, flat_nodes, flat_props, flat_vals}
use Rattle.tables.specs.Memory.{Memory, memory}
use Rattle.tables.specs.Record.{Tree}
use Rattle.tables.specs.Rows.{Tables, tables, counts_of}
use Rattle.parser.specs.Read.{accepted, read}
use Rattle.fit.specs.Fit.{Fit}
use Rattle.fit.specs.Record.{text_in}
use Rattle.fit.proofs.Rows.{rows-of-flat}
use Rattle.fit.proofs.Whole.{fit-lent}
use Rattle.reader_laws.proofs.Fitting.{buffer-fits}
use Rattle.edit_answer.specs.Answer.{edited_for}
use Rattle.edit_answer.specs.Edit.{gives, edit, span_at}
use Rattle.edit.specs.Lent.{memory_after}
use Rattle.edit_laws.specs.Calls.{text_rows, outcome_for, memory_next}
use Rattle.edit_laws.specs.Run.{TextRows, Order, after, run_edits}
use Rattle.edit_laws.proofs.CallsRun.{call_kept, call-edits}
use Rattle.edit_session.specs.Session.{Granted, asked, AllGranted, undoing}
use Rattle.edit_session.proofs.Step.{step_back, step-again}
use Rattle.edit_session.proofs.Undone.{Back, invariant-undone, invariant-redone, invariant-holds}

-- held in memory whose tables fit, of so many bytes
pub record Held (room : ℕ) (s : TextRows) : Type 0 where
  pub m : Memory
  pub fits : Fit m ≡ true
  pub is : text_rows m ≡ s
  pub lent : length m.text ≡ room

pub used-lent : (m : Memory) → Fit m ≡ true → length (text_in m) ≤ length m.text
used-lent m fit = let l = (fit-lent m fit).0 in omega (arith, length-take-le m.used m.text l, l)

fit-back : (m : Memory) → Fit m ≡ true → (x : Order) → Back (length m.text) (text_rows m) x
fit-back m fit x = record { gone = step_back m fit (length m.text) (used-lent m fit) x; again = step-again m fit (length m.text) (used-lent m fit) x }

module _ (room : ℕ) where
  held_back : (s : TextRows) (x : Order) → Held room s → Back room s x
  held_back s x h =
      subst (λ (n : ℕ). Back n s x) h.lent
      (subst (λ (z : TextRows). Back (length h.m.text) z x) h.is (fit-back h.m h.fits x))

  held_on : (s : TextRows) (x : Order) → Held room s → Granted (asked room s x) → Held room (after s (asked room s x))
  held_on s x h _ =
      let o = outcome_for h.m x in
      let l = memory_after o h.m in
      let k = call_kept h.m x h.fits (edited_for o) l (record { answer = refl; memory = refl }) in
      record {
        m = memory_next l (edited_for o);
        fits = k.0;
        is = call-edits h.m x h.fits (edited_for o) l (record { answer = refl; memory = refl })
            ∙ ap₂ (λ (n : ℕ) (z : TextRows). after z (asked n z x)) h.lent h.is;
        lent = k.1 ∙ h.lent;
      }

  -- accepted at every step, and the first text and rows again
  pub held-undone : (s : TextRows) (xs : List Order) → Held room s → AllGranted room s xs
      → AllGranted room (run_edits room s xs) (undoing room s xs) × (run_edits room (run_edits room s xs) (undoing room s xs) ≡ s)
  held-undone = invariant-undone room (Held room) held_back held_on

  -- what undoes the undoing is the session
  pub held-redone : (s : TextRows) (xs : List Order) → Held room s → AllGranted room s xs → undoing room (run_edits room s xs) (undoing room s xs) ≡ xs
  held-redone = invariant-redone room (Held room) held_back held_on

  -- and so is what it ends with
  pub held-end : (s : TextRows) (xs : List Order) → Held room s → AllGranted room s xs → Held room (run_edits room s xs)
  held-end = invariant-holds room (Held room) held_back held_on

-- ---- of tables that fit

module _ (m : Memory) (fit : Fit m ≡ true) (xs : List Order) (a : AllGranted (length m.text) (text_rows m) xs) where
  abbrev room : ℕ
  room = length m.text

  abbrev end : TextRows
  end = run_edits room (text_rows m) xs

  held : Held room (text_rows m)
  held = record { m = m; fits = fit; is = refl; lent = refl }

  pub fit-undone : AllGranted room end (undoing room (text_rows m) xs) × (run_edits room end (undoing room (text_rows m) xs) ≡ text_rows m)
  fit-undone = held-undone room (text_rows m) xs held a

  pub fit-redone : undoing room end (undoing room (text_rows m) xs) ≡ xs
  fit-redone = held-redone room (text_rows m) xs held a

-- ---- of a reading, strict or lenient, over the definition alone

module _ (lenient : Bool) (room : ℕ) (t : List ℕ) (ts : List Tree) (h : read lenient t ≡ accepted ts) (roomy : length t ≤ room) where
  abbrev first : TextRows
  first = record { text = t; rows = tables ts }

  reading-held : Held room first
  reading-held =
      let z : List ℕ = replicate (room - length t) 0 in
      let u : take (length t) (t ++ z) ≡ t = take_at t z (length t) refl in
      let l : length (t ++ z) ≡ room = length-append t z ∙ omega (arith, length-replicate {A = ℕ} (room - length t) 0, roomy) in
      record {
        m = memory (t ++ z) (length t) (counts_of (tables ts)) (flat_trees (tables ts).trees ++ []) (flat_nodes (tables ts).nodes ++ []) (flat_props (tables ts).props ++ []) (flat_vals (tables ts).vals ++ []);
        fits = buffer-fits lenient (t ++ z) (length t) ts (omega (arith, l, roomy)) (ap (read lenient) u ∙ h) [] [] [] [];
        is = ap₂ (λ (x : List ℕ) (T : Tables). record { text = x; rows = T }) u (rows-of-flat (tables ts) [] [] [] []);
        lent = l;
      }

  pub reading-undone : (xs : List Order) → AllGranted room first xs
      → AllGranted room (run_edits room first xs) (undoing room first xs) × (run_edits room (run_edits room first xs) (undoing room first xs) ≡ first)
  reading-undone xs = held-undone room first xs reading-held

  pub reading-redone : (xs : List Order) → AllGranted room first xs → undoing room (run_edits room first xs) (undoing room first xs) ≡ xs
  reading-redone xs = held-redone room first xs reading-held

  -- one step of it
  pub edit-undone : (k : ℕ) (new u : List ℕ) (T : Tables) → edit room t (tables ts) k new ≡ gives u T
      → edit room u T k (slice (span_at (tables ts).vals k).from (span_at (tables ts).vals k).to t) ≡ gives t (tables ts)
  edit-undone k new u T = (held_back room first (record { value = k; bytes = new }) reading-held).gone u T
