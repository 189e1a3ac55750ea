-- What is left to do once all is decided: the record lies in the tables, and there is room. Nothing public is stated by these.
use Rattle.std.specs.Prelude.{◌/◌, ◌≤◌, ◌≡◌, Result, Ok}
use Rattle.lists.specs.Prelude.{ℕ, true, List, length}
use Rattle.tables.specs.Memory.{Memory, memory}
use Rattle.tables.specs.Numbers.{text_limit}
use Rattle.tables.specs.Flat.{over}
use Rattle.tables.specs.declared.Counts.{Counts}
use Rattle.fit.specs.Fit.{Fit}
use Rattle.fit.specs.Record.{record_in}
use Rattle.serialize.specs.Form.{writing}
use Rattle.salvage_mend.specs.Changes.{Change}
use Rattle.salvage_mend.specs.Mend.{mended}
use Rattle.salvage_list.specs.ListRows.{change_rows}
use Rattle.tables.specs.declared.Reason.{Reason}
use Rattle.tables.specs.declared.Refusal.{Refusal}

-- a text that is used whole, and its tables
abbrev pub whole_text : List ℕ → Counts → (trees nodes properties values : List ℕ) → Memory
whole_text t c tr nd pr vl = memory t (length t) c tr nd pr vl

-- the tables fit the text, the result is within the limit and the output, and the list of k changes within its rows
pub record Decided (m : Memory) (cs : List Change) (list out : List ℕ) (k : ℕ) : Type 0 where
  pub fits : Fit m ≡ true
  pub short : length (writing (mended (record_in m))) ≤ text_limit
  pub room : length (writing (mended (record_in m))) ≤ length out
  pub count : k ≡ length cs
  pub rows : k ≤ length list / 3

-- the result and the list are written whole
pub record WrittenWhole (m : Memory) (cs : List Change) (list list' out out' : List ℕ) (r : Result (Counts × ℕ × ℕ) (Refusal Reason)) : Type 0 where
  pub answer : r ≡ Ok (m.counts, length (writing (mended (record_in m))), length cs)
  pub changes : list' ≡ over (change_rows cs) list
  pub bytes : out' ≡ over (writing (mended (record_in m))) out
