-- The line of a text in a season's report, and of a record: a function of the text and of what is lent.
use Rattle.std.specs.Prelude.{◌≤◌, ◌≡◌, ◌⊎◌, Result, Ok, Err}
use Rattle.lists.specs.Prelude.{ℕ, List, ltb, length, pick}
use Rattle.tables.specs.Record.{Tree, all_nodes, all_props}
use Rattle.tables.specs.Rows.{tables}
use Rattle.tables.specs.Memory.{Memory}
use Rattle.tables.specs.Numbers.{number_of}
use Rattle.tables.specs.declared.Reason.TheVariants.{NoRoom, EmptyIdentifier}
use Rattle.fit.specs.Record.{record_in}
use Rattle.parser.specs.Read.{Answer, refused, accepted, read_strict}
use Rattle.reader.specs.Lent.{Lent, roomy, leaves}
use Rattle.serialize.specs.Branch.{nameless}
use Rattle.serialize.specs.Form.{writing, written, output}
use Rattle.season_tag.specs.Tag.{tag_of}
use Rattle.season_tally.specs.Tally.{tally_of}
use Rattle.season_totals.specs.declared.Line.{Line}
use Rattle.season_totals.specs.declared.Line.TheVariants.{Unread, Refused, Counted}
use Rattle.tables.specs.declared.Reason.{Reason}

-- what the writer answers of a record, with so many bytes lent: an identifier that reads as empty, then a writing that is longer, is refused
abbrev pub written_with : List Tree → (room : ℕ) → Result ℕ Reason
written_with ts room =
    pick (nameless (all_props (all_nodes ts))) (Err EmptyIdentifier)
    (pick (ltb room (length (writing ts))) (Err NoRoom) (Ok (length (writing ts))))

-- the line of a record by what the writer answers: its tally and the tag of its writing, or the number of the refusal
abbrev pub line_by : Result ℕ Reason → List Tree → Line
line_by (Ok n) ts = Counted (tally_of ts) (tag_of (writing ts))
line_by (Err r) ts = Refused (number_of r)

-- the line of a text: refused by its strict reading; by too few rows, 14; as the writer does, 15 and 14; else counted
unfoldable pub line_of : Answer → Lent → (room : ℕ) → Line
line_of (refused r p) l room = Refused (number_of r)
line_of (accepted ts) l room = pick (roomy (tables ts) l) (line_by (written_with ts room) ts) (Refused (number_of NoRoom))

-- the lent bytes after it: the writing and what was behind it; a refusal changes none
unfoldable pub line_leaves : Answer → Lent → (out : List ℕ) → List ℕ
line_leaves (refused r p) l out = out
line_leaves (accepted ts) l out = pick (roomy (tables ts) l) (output (written_with ts (length out)) (writing ts) out) out

-- the line of a text, the four tables and the lent bytes after it
pub record LineIs (a : Answer) (before after : Lent) (out out' : List ℕ) (r : Line) : Type 0 where
  pub line : r ≡ line_of a before (length out)
  pub tables : after ≡ leaves a before
  pub bytes : out' ≡ line_leaves a before out

-- the line of a record in memory, and the lent bytes after it: as the writer answers, 19 where the tables don't fit the text
pub record RecordLineIs (m : Memory) (out out' : List ℕ) (r : Line) : Type 0 where
  pub line : r ≡ line_by (written m (length out)) (record_in m)
  pub bytes : out' ≡ output (written m (length out)) (writing (record_in m)) out

-- a line of a season: a file that was not read, one that is refused before it is read, or the line of a text of at most 65,536 bytes
abbrev pub SeasonLine : Line → Type 0
SeasonLine l =
    (l ≡ Unread) ⊎ ((n : ℕ) × (l ≡ Refused n)) ⊎ ((t : List ℕ) × (before : Lent) × (room : ℕ) × (length t ≤ 65536) × (l ≡ line_of (read_strict t) before room))
