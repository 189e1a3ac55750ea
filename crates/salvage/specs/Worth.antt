-- What a salvaged text is worth.
use Rattle.std.specs.Prelude.{◌≡◌, Result, Ok, Err}
use Rattle.lists.specs.Prelude.{ℕ, List, length}
use Rattle.tables.specs.Record.{Tree}
use Rattle.tables.specs.declared.Counts.{Counts}
use Rattle.tables.specs.Rows.{tables, counts_of}
use Rattle.tables.specs.Numbers.{number_of}
use Rattle.parser.specs.Read.{accepted, read_lenient}
use Rattle.serialize.specs.Form.{writing}
use Rattle.serialize_laws.specs.Same.{ReadsBack}
use Rattle.salvage_mend.specs.Changes.{changed}
use Rattle.salvage_mend.specs.Mend.{mended}
use Rattle.salvage_list.specs.ListRows.{text_changes}
use Rattle.tables.specs.declared.Reason.{Reason}
use Rattle.tables.specs.declared.Refusal.{Refusal}

-- of text t the bytes w, and k changes: w is the writing of the mended lenient record, strict reading accepts it with that record, and the list leaves nothing unsaid (SCOPE 295)
pub record Worth (t : List ℕ) (c : Counts) (w : List ℕ) (k : ℕ) : Type 0 where
  pub trees : List Tree
  pub reads : read_lenient t ≡ accepted trees
  pub counts : c ≡ counts_of (tables trees)
  pub bytes : w ≡ writing (mended trees)
  pub back : ReadsBack (mended trees)
  pub count : k ≡ length (text_changes t)
  pub says : changed (text_changes t) trees ≡ mended trees

-- the number of an answer; 0 where it is done
abbrev pub salvage_number : Result (Counts × ℕ × ℕ) (Refusal Reason) → ℕ
salvage_number (Ok (c, n, k)) = 0
salvage_number (Err e) = number_of e.reason
