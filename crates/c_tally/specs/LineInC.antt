-- The line of a record in a season's report, shown as numbers, as the C header says them. What is reserved is 0.
use Rattle.std.specs.Prelude.{◌≡◌, Result, Ok, Err}
use Rattle.lists.specs.Prelude.{ℕ, List, length}
use Rattle.tables.specs.Memory.{Memory}
use Rattle.tables.specs.Numbers.{number_of}
use Rattle.tables.specs.Record.{Tree}
use Rattle.fit.specs.Record.{record_in}
use Rattle.serialize.specs.Form.{writing, written, output}
use Rattle.season_tag.specs.Tag.{tag_of}
use Rattle.season_totals.specs.declared.Tally.{Tally}
use Rattle.season_tally.specs.Tally.{tally_of}
use Rattle.c_tally.specs.declared.SgfLine.{SgfLine}
use Rattle.tables.specs.declared.Reason.{Reason}

-- a refusal: its number, and all else 0
abbrev pub no_line_in_c : (number : ℕ) → SgfLine
no_line_in_c n = record { number = n; reserved = 0; length = 0; trees = 0; nodes = 0; black = 0; white = 0; passes = 0; tag = 0 }

-- a writing of so many bytes, a tally and a tag
abbrev pub counted_in_c : (length : ℕ) → Tally → (tag : ℕ) → SgfLine
counted_in_c n t g =
    record { number = 0; reserved = 0; length = n; trees = t.trees; nodes = t.nodes; black = t.black; white = t.white; passes = t.passes; tag = g }

-- by what the writer answers: how many bytes it wrote, the tally of the record and the tag of its writing (SCOPE 247)
abbrev pub line_in_c : Result ℕ Reason → List Tree → SgfLine
line_in_c (Ok n) ts = counted_in_c n (tally_of ts) (tag_of (writing ts))
line_in_c (Err r) ts = no_line_in_c (number_of r)

-- the line of the record in memory, and the lent bytes after it: both as the writer answers, 19, 15, 14; a refusal changes none
pub record LineInC (m : Memory) (out out' : List ℕ) (r : SgfLine) : Type 0 where
  pub is : r ≡ line_in_c (written m (length out)) (record_in m)
  pub bytes : out' ≡ output (written m (length out)) (writing (record_in m)) out
