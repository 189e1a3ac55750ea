-- Undo: where a run of edits was accepted and the old raw bytes of each value were kept before its edit, putting them back in reverse order is accepted at every
-- step and ends with the first used text and rows, in the same buffer. Of sgf_edit, of the edit, and over the definition; for any tables that fit, and so for
-- strict and lenient readings. Assumes nothing.
use Rattle.lists.proofs.Prelude.{ℕ, ◌≤◌, ◌<◌, Bool, true, List, ◌≡◌, length}
use Rattle.tables.specs.Memory.{Memory}
use Rattle.tables.specs.Record.{Tree}
use Rattle.tables.specs.Rows.{tables}
use Rattle.fit.specs.Fit.{Fit}
use Rattle.parser.specs.Read.{accepted, read}
use Rattle.ask_value.specs.Access.{raw_value}
use Rattle.edit_laws.specs.Calls.{text_rows, Calls}
use Rattle.edit_laws.specs.Run.{TextRows, Order, run_edits}
use Rattle.edit_session.specs.InMemory.{AllChanged, kept_of, kept_in, SameRecord}
use Rattle.edit_session.specs.Session.{AllGranted, undoing}
use Rattle.edit_session.proofs.CallsUndone as calls
use Rattle.edit_session.proofs.OfFitting as fitting
use Rattle.edit_session.proofs.OldBytes as old
use Rattle.demands.specs.Calls.{ExportedCalls}
use Rattle.demands.specs.Sessions.{AllZero, kept_before}
use Rattle.demands.proofs.Sessions as shown

-- what is kept are the bytes that sgf_value hands out before the edit
pub kept-handed : (m : Memory) → Fit m ≡ true → (x : Order) → x.value < m.counts.values → raw_value m x.value ≡ (kept_of m x).bytes
kept-handed m fit x = old.own-handed m fit x.value

-- ---- calls of sgf_edit, in memory whose tables fit

module _ {m m' m'' : Memory} {xs : List Order} (fit : Fit m ≡ true) where
  -- calls c, each with number 0, then calls d that put back what was kept: each has number 0, and the record in memory is as it was before c;
  -- what is kept before d is the session
  pub session-undone : (c : ExportedCalls m xs m') → AllZero c → (d : ExportedCalls m' (kept_before c) m'') → AllZero d × (kept_before d ≡ xs) × SameRecord m m''
  session-undone = shown.exported-undone fit

  -- redo: the session's calls again, each with number 0, and the record is as it was after c
  pub session-redone : {m''' : Memory} (c : ExportedCalls m xs m') → AllZero c → ExportedCalls m' (kept_before c) m''
      → (e : ExportedCalls m'' xs m''') → AllZero e × (kept_before e ≡ kept_before c) × SameRecord m' m'''
  session-redone c a d = shown.exported-redone fit c a d

  -- the same of calls of the edit itself
  pub calls-undone : (c : Calls m xs m') → AllChanged c → (d : Calls m' (kept_in c) m'') → AllChanged d × (kept_in d ≡ xs) × SameRecord m m''
  calls-undone = calls.calls-undone fit

  pub calls-redone : {m''' : Memory} (c : Calls m xs m') → AllChanged c → Calls m' (kept_in c) m''
      → (e : Calls m'' xs m''') → AllChanged e × (kept_in e ≡ kept_in c) × SameRecord m' m'''
  calls-redone c a d = calls.calls-redone fit c a d

-- ---- over the definition

-- of tables that fit
module _ (m : Memory) (fit : Fit m ≡ true) (xs : List Order) (a : AllGranted (length m.text) (text_rows m) xs) where
  pub fit-undone : AllGranted (length m.text) (run_edits (length m.text) (text_rows m) xs) (undoing (length m.text) (text_rows m) xs)
      × (run_edits (length m.text) (run_edits (length m.text) (text_rows m) xs) (undoing (length m.text) (text_rows m) xs) ≡ text_rows m)
  fit-undone = fitting.fit-undone m fit xs a

  pub fit-redone : undoing (length m.text) (run_edits (length m.text) (text_rows m) xs) (undoing (length m.text) (text_rows m) xs) ≡ xs
  fit-redone = fitting.fit-redone m fit xs a

-- of a reading, strict or lenient
module _ (lenient : Bool) (room : ℕ) (t : List ℕ) (ts : List Tree) (h : read lenient t ≡ accepted ts) (roomy : length t ≤ room) where
  abbrev first : TextRows
  first = record { text = t; rows = tables ts }

  pub reading-undone : (xs : List Order) → AllGranted room first xs
      → AllGranted room (run_edits room first xs) (undoing room first xs) × (run_edits room (run_edits room first xs) (undoing room first xs) ≡ first)
  reading-undone = fitting.reading-undone lenient room t ts h roomy

  pub reading-redone : (xs : List Order) → AllGranted room first xs → undoing room (run_edits room first xs) (undoing room first xs) ≡ xs
  reading-redone = fitting.reading-redone lenient room t ts h roomy
