-- Demand 3, editable. "Take a record accepted by the strict reader, with its tables. Replace one value, not a GM value, by closed UTF-8 text that fits.
-- The edited text and tables are then exactly what a strict reading of the new bytes, under the same options, gives; bytes before the value stay, later
-- places move by the change in length. This holds after any run of edits, refused ones between them changing nothing." Assumes nothing.
use Rattle.lists.proofs.Prelude.{ℕ, ◌+◌, ◌-◌, ◌≤◌, ◌<◌, true, List, ◌↔◌, ◌≡◌, length}
use Rattle.text_chars.specs.Table.{WellFormed}
use Rattle.lexer.specs.Closed.{closed}
use Rattle.tables.specs.Memory.{Memory}
use Rattle.tables.specs.Numbers.{text_limit}
use Rattle.tables.specs.Rows.{tables, counts_of}
use Rattle.tables.specs.declared.Counts.{Counts}
use Rattle.tables.specs.declared.Reason.{Reason}
use Rattle.fit.specs.Fit.{Fit}
use Rattle.fit.specs.Record.{rows_of, rows_in, text_in}
use Rattle.parser.specs.Game.{GM}
use Rattle.parser.specs.Read.{read_strict}
use Rattle.reader.specs.Lent.{Lent, ReadIs}
use Rattle.edit.specs.Lent.{EditIs}
use Rattle.c_answers.specs.declared.SgfEdit.{SgfEdit}
use Rattle.c_answers.specs.declared.SgfReading.{SgfReading}
use Rattle.sgf.specs.ChangeInC.{EditInC}
use Rattle.sgf.specs.ReadInC.{ReadInC}
use Rattle.edit_laws.specs.Calls as edit
use Rattle.edit_laws.specs.Edits.{owner, new_length, Allowed, Forbidden, Moves, Edits}
use Rattle.edit_laws.specs.Fresh.{Fresh}
use Rattle.edit_laws.specs.Run.{Order, Reads, run_edits}
use Rattle.edit_laws.proofs.Bare as bare
use Rattle.edit_laws.proofs.CallsRun as fitting
use Rattle.edit_laws.proofs.OnCode as code
use Rattle.demands.specs.Calls.{counts_in, goes_on, ExportedCalls}
use Rattle.demands.specs.Cells.{tables_in, has_room, counts_read, SameCells}
use Rattle.demands.proofs.CallsShown.{calls-shown}
use Rattle.demands.proofs.Edited as edited
use Rattle.demands.proofs.Editing as editing
use Rattle.demands.proofs.Rereadings as again
use Rattle.std.specs.Prelude.{Result, Ok, Err}
use Rattle.tables.specs.Refusals.{refusal}
use Rattle.tables.specs.declared.Refusal.{Refusal}

module _ (m : Memory) where
  -- memory as an accepted strict reading of the used text leaves it: the tables fit, and their rows are the record's
  pub reading-fresh : (before : Lent) → m.used ≤ length m.text
      → ReadIs (read_strict (text_in m)) before (tables_in m) (Ok m.counts) → Fresh m
  reading-fresh = again.read-fresh m

  -- the same of sgf_read_strict: number 0, and the counts that it gives back
  pub shown-fresh : {i : ℕ} (before : Lent) (r : SgfReading) → m.used ≤ length m.text → ReadInC i (read_strict (text_in m)) before (tables_in m) r
      → r.number ≡ 0 → counts_read r ≡ m.counts → Fresh m
  shown-fresh = again.shown-fresh m

  module _ (f : Fresh m) where
    -- the sentence, of sgf_edit: accepted; what it leaves, byte by byte and place by place; and that is what a strict reading gives
    pub edit-fresh : (m' : Memory) (k : ℕ) (new : List ℕ) (r : SgfEdit) → EditInC m m' k new r
        → k < m.counts.values → (owner m k ≡ GM → ⊥) → WellFormed new → closed new ≡ true
        → new_length m k (length new) ≤ text_limit → new_length m k (length new) ≤ length m.text
        → (r.number ≡ 0) × (r.used ≡ new_length m k (length new)) × (counts_in r ≡ m.counts) × Edits m k new m' × Fresh (goes_on m' r)
    edit-fresh = editing.edit-fresh m f

    -- after any run of calls of sgf_edit, refused ones between them
    pub calls-fresh : (xs : List Order) (m' : Memory) → ExportedCalls m xs m' → Fresh m'
    calls-fresh xs m' k = again.calls-fresh m m' xs f (calls-shown k)

    -- or of the edit itself
    pub edits-fresh : (xs : List Order) (m' : Memory) → edit.Calls m xs m' → Fresh m'
    edits-fresh xs m' = again.calls-fresh m m' xs f

    -- a strict reading of the used bytes into tables with room is accepted, with the same counts, and leaves the same cells
    pub fresh-reading : (before after : Lent) (r : Result Counts (Refusal Reason)) → has_room m.counts before ≡ true
        → ReadIs (read_strict (text_in m)) before after r
        → (r ≡ Ok m.counts) × SameCells m.counts after (tables_in m)
    fresh-reading = again.reread m f

    -- the same of sgf_read_strict
    pub shown-reading : {i : ℕ} (before after : Lent) (r : SgfReading) → has_room m.counts before ≡ true → ReadInC i (read_strict (text_in m)) before after r
        → (r.number ≡ 0) × (counts_read r ≡ m.counts) × SameCells m.counts after (tables_in m)
    shown-reading = again.reread-shown m f

    -- the caller's own tables have room, and a reading into them leaves every number
    pub own-reading : (after : Lent) (r : Result Counts (Refusal Reason)) → ReadIs (read_strict (text_in m)) (tables_in m) after r
        → (r ≡ Ok m.counts) × (after ≡ tables_in m)
    own-reading = again.reread-own m f

-- memory without tables holds no reading, whatever its cells would read as
pub bare-not-fresh : Fresh bare.bare → ⊥
bare-not-fresh = bare.bare-not-fresh

-- ---- of any memory that fits, whatever reading it is of

module _ (m m' : Memory) (k : ℕ) (new : List ℕ) (r : Result ℕ (Refusal Reason)) (s : EditIs m m' k new r) where
  -- an edit that nothing forbids is accepted; bytes before the value stay, the new ones stand there, those behind follow, freed ones are 0;
  -- places before the value stay, those behind it move by the change in length
  pub edit-accepted : Allowed m k new → (r ≡ Ok (new_length m k (length new))) × Edits m k new m'
  edit-accepted = edited.edit-accepts m m' k new r s

  -- and no other is
  pub edit-accepted-only : (n : ℕ) → r ≡ Ok n → Allowed m k new × (n ≡ new_length m k (length new))
  edit-accepted-only = edited.edit-accepted-only m m' k new r s

  -- each of 19, 16, 17, 2, 18, 1, 14 exactly when the scope says, in this order, with the place
  pub edit-refused-exactly : (x : Reason) (p : ℕ) → (r ≡ Err (refusal x p)) ↔ Forbidden m k new x p
  edit-refused-exactly = edited.edit-refuses m m' k new r s

-- the same of sgf_edit; when it is refused: Demand1's edit-exactly
pub shown-accepted : (m m' : Memory) (k : ℕ) (new : List ℕ) (r : SgfEdit) → EditInC m m' k new r → Allowed m k new
    → (r.number ≡ 0) × (r.used ≡ new_length m k (length new)) × (counts_in r ≡ m.counts) × Edits m k new m'
shown-accepted = edited.edit-changes

-- the places of a row, as the demand says them: of another span, p at or before the value's start stays, p at or behind its end moves by the change in length
pub places-moved : (q e n p p' : ℕ) → q ≤ e → Moves q e n p p' → (p ≤ q → p' ≡ p) × (e ≤ p → p' ≡ p - e + (q + n))
places-moved = edited.places-said

-- tables that fit, fit all along, and the calls do what the definition's run of edits does
pub calls-run : (m m' : Memory) (xs : List Order) → Fit m ≡ true → edit.Calls m xs m'
    → (Fit m' ≡ true) × (edit.text_rows m' ≡ run_edits (length m.text) (edit.text_rows m) xs)
calls-run m m' xs f k = (fitting.calls-fit m m' xs f k, fitting.calls-run m m' xs f k)

-- the same of calls of sgf_edit
pub shown-run : (m m' : Memory) (xs : List Order) → Fit m ≡ true → ExportedCalls m xs m'
    → (Fit m' ≡ true) × (edit.text_rows m' ≡ run_edits (length m.text) (edit.text_rows m) xs)
shown-run m m' xs f k = calls-run m m' xs f (calls-shown k)

-- ---- of rows that read as the used text, whether the tables are lent or not

module _ (m : Memory) where
  -- an accepted strict reading leaves such rows
  pub reading-reads : (before : Lent) → ReadIs (read_strict (text_in m)) before (tables_in m) (Ok m.counts) → Reads (edit.text_rows m)
  reading-reads = again.read-reads m

  module _ (f : Reads (edit.text_rows m)) where
    -- they stay such under any calls
    pub calls-reads : (xs : List Order) (m' : Memory) → edit.Calls m xs m' → Reads (edit.text_rows m')
    calls-reads xs m' = code.calls-reads m m' xs f

    -- the counts that the caller keeps are the lengths of the definition's tables
    pub counts-reads : m.counts ≡ counts_of (tables f.trees)
    counts-reads = code.counts-reads m f

    -- whatever tables it is read into, an accepted reading has these rows
    pub reads-rows : (before after : Lent) (k : Counts) → ReadIs (read_strict (text_in m)) before after (Ok k)
        → rows_of k after.trees after.nodes after.props after.vals ≡ rows_in m
    reads-rows = again.reread-rows m f
