-- When sgf_salvage accepts, and when it gives each number: all of it decided before anything that is lent changes.
use Rattle.std.specs.Prelude.{◌≤◌, ◌<◌, ◌≡◌}
use Rattle.lists.specs.Prelude.{ℕ, true, false, List, length}
use Rattle.tables.specs.Numbers.{number_of, text_limit, depth_limit}
use Rattle.tables.specs.Record.{Tree}
use Rattle.tables.specs.Rows.{tables}
use Rattle.tables.specs.declared.Reason.{Reason}
use Rattle.parser.specs.Read.{refused, accepted, read_lenient}
use Rattle.reader.specs.Lent.{Lent}
use Rattle.serialize.specs.Form.{writing}
use Rattle.serialize_laws.specs.Depth.{depth_of}
use Rattle.salvage_mend.specs.Mend.{mended}
use Rattle.salvage_list.specs.ListRows.{text_changes}
use Rattle.salvage.specs.Salvage.{room_for_all}

-- 1, 2 and 9 of the text, with the place, as lenient reading refuses it; 1 and 9 of the result; then one 14 for tables, list and output
pub data SalvageBecause (t : List ℕ) (before : Lent) (list out : List ℕ) : (number place : ℕ) → Type 0 where
  unread : {x : Reason} {p : ℕ} → read_lenient t ≡ refused x p → SalvageBecause t before list out (number_of x) p
  long : (ts : List Tree) → read_lenient t ≡ accepted ts → text_limit < length (writing (mended ts)) → SalvageBecause t before list out 1 0
  deep : (ts : List Tree) → read_lenient t ≡ accepted ts → length (writing (mended ts)) ≤ text_limit
      → depth_limit < depth_of (writing (mended ts)) → SalvageBecause t before list out 9 0
  full : (ts : List Tree) → read_lenient t ≡ accepted ts → length (writing (mended ts)) ≤ text_limit → depth_of (writing (mended ts)) ≤ depth_limit
      → room_for_all (tables ts) before (writing (mended ts)) (text_changes t) (length list) (length out) ≡ false → SalvageBecause t before list out 14 0
  done : (ts : List Tree) → read_lenient t ≡ accepted ts → length (writing (mended ts)) ≤ text_limit → depth_of (writing (mended ts)) ≤ depth_limit
      → room_for_all (tables ts) before (writing (mended ts)) (text_changes t) (length list) (length out) ≡ true → SalvageBecause t before list out 0 0
