-- Runs of edits, and records that a strict reading gives.
use Rattle.std.specs.Prelude.{◌≡◌, ◌∷◌}
use Rattle.lists.specs.Prelude.{ℕ, List, []}
use Rattle.tables.specs.Record.{Tree}
use Rattle.tables.specs.Rows.{Tables, tables}
use Rattle.parser.specs.Read.{accepted, read_strict}
use Rattle.edit_answer.specs.Edit.{Outcome, refuses, gives, edit}

-- a used text and its rows
pub record TextRows : Type 0 where
  pub text : List ℕ
  pub rows : Tables

-- an edit that is asked for
pub record Order : Type 0 where
  pub value : ℕ
  pub bytes : List ℕ

-- a refused edit changes nothing
abbrev pub after : TextRows → Outcome → TextRows
after s (refuses r p) = s
after s (gives t T) = record { text = t; rows = T }

-- any run of edits, refused ones between them
abbrev pub run_edits : (room : ℕ) → TextRows → List Order → TextRows
run_edits room s [] = s
run_edits room s (x ∷ xs) = run_edits room (after s (edit room s.text s.rows x.value x.bytes)) xs

-- text and rows are what a fresh strict reading gives
pub record Reads (s : TextRows) : Type 0 where
  pub trees : List Tree
  pub reads : read_strict s.text ≡ accepted trees
  pub same_rows : s.rows ≡ tables trees
