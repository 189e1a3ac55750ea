-- A writing and an edit, shown as numbers, as the C header says them.
use Rattle.std.specs.Prelude.{◌≡◌}
use Rattle.lists.specs.Prelude.{ℕ, List, length}
use Rattle.tables.specs.Memory.{Memory}
use Rattle.fit.specs.Record.{record_in}
use Rattle.serialize.specs.Form.{writing, written, output}
use Rattle.edit_answer.specs.Answer.{outcome_of, edited_for}
use Rattle.edit.specs.Lent.{memory_after}
use Rattle.c_answers.specs.Structs.{writing_in_c, edit_in_c}
use Rattle.c_answers.specs.declared.SgfEdit.{SgfEdit}
use Rattle.c_answers.specs.declared.SgfWriting.{SgfWriting}

-- a writing and the lent bytes after it
pub record WriteInC (m : Memory) (out out' : List ℕ) (r : SgfWriting) : Type 0 where
  pub is : r ≡ writing_in_c (written m (length out))
  pub bytes : out' ≡ output (written m (length out)) (writing (record_in m)) out

-- an edit and the lent memory after it
pub record EditInC (m m' : Memory) (k : ℕ) (new : List ℕ) (r : SgfEdit) : Type 0 where
  pub is : r ≡ edit_in_c m.counts (edited_for (outcome_of m k new))
  pub memory : m' ≡ memory_after (outcome_of m k new) m
