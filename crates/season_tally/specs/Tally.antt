-- The tally of a record: by the read identifier and the Go value of each property, as SCOPE 97 numbers them. Properties are counted, not nodes.
use Rattle.std.specs.Prelude.{◌≡◌, ◌∷◌, Option, Some, None, Result, Ok, Err}
use Rattle.lists.specs.Prelude.{ℕ, List, [], length, get_or, pick}
use Rattle.lists.specs.Same.{same}
use Rattle.values.specs.Read.{read_identifier}
use Rattle.go_points.specs.declared.Value.{Value}
use Rattle.go_points.specs.declared.Value.TheVariants.{Other, Invalid, Pass, Move, Handicap, Points}
use Rattle.tables.specs.Record.{Tree, all_nodes, all_props}
use Rattle.tables.specs.Each.{sum}
use Rattle.tables.specs.Memory.{Memory}
use Rattle.fit.specs.Fit.{Fit}
use Rattle.fit.specs.Record.{record_in}
use Rattle.ask.specs.Ask.{no_prop, go_at}
use Rattle.serialize.specs.Form.{writing, written, output}
use Rattle.season_tag.specs.Tag.{tag_of}
use Rattle.season_totals.specs.declared.Tally.{Tally}
use Rattle.season_tally.specs.declared.Played.{Played}
use Rattle.season_tally.specs.declared.Played.TheVariants.{Black, White, Passed, Nothing}
use Rattle.tables.specs.declared.Reason.{Reason}

-- a value of a colour's move: a point is that colour's, a pass is a pass; an invalid one counts nowhere
abbrev pub moved_by : (mine : Played) → Value → Played
moved_by mine Other = Nothing
moved_by mine Invalid = Nothing
moved_by mine Pass = Passed
moved_by mine (Move x y) = mine
moved_by mine (Handicap n) = Nothing
moved_by mine Points = Nothing

-- by the read identifier: B, W, or any other
unfoldable pub played_by : (name : List ℕ) → Value → Played
played_by name v = pick (same name (0x42 ∷ [])) (moved_by Black v) (pick (same name (0x57 ∷ [])) (moved_by White v) Nothing)

-- what property p of these trees counts as; "other", as all values in trees of another game, counts nowhere
abbrev pub counts_as : List Tree → (p : ℕ) → Played
counts_as ts p = played_by (read_identifier (get_or (all_props (all_nodes ts)) p no_prop).name) (go_at ts p).value

-- 1 for a black move
abbrev pub is_black : Played → ℕ
is_black Black = 1
is_black White = 0
is_black Passed = 0
is_black Nothing = 0

-- 1 for a white move
abbrev pub is_white : Played → ℕ
is_white Black = 0
is_white White = 1
is_white Passed = 0
is_white Nothing = 0

-- 1 for a pass
abbrev pub is_passed : Played → ℕ
is_passed Black = 0
is_passed White = 0
is_passed Passed = 1
is_passed Nothing = 0

-- trees, nodes; over all properties, moves of each colour that are points, and passes of either
unfoldable pub tally_of : List Tree → Tally
tally_of ts =
    let n = length (all_props (all_nodes ts)) in
    record {
      trees = length ts;
      nodes = length (all_nodes ts);
      black = sum (λ p. is_black (counts_as ts p)) n;
      white = sum (λ p. is_white (counts_as ts p)) n;
      passes = sum (λ p. is_passed (counts_as ts p)) n;
    }

-- 19 where the tables don't fit the text, else the tally of the record that they denote
unfoldable pub tally_answer : Memory → Option Tally
tally_answer m = pick (Fit m) (Some (tally_of (record_in m))) None

-- what the writer answers, with the record's tally and the tag of its writing where it wrote
abbrev pub tally_with : Result ℕ Reason → List Tree → Result (ℕ × Tally × ℕ) Reason
tally_with (Ok n) ts = Ok (n, tally_of ts, tag_of (writing ts))
tally_with (Err r) ts = Err r

-- the answer, and the lent bytes after it as the writer leaves them
pub record WriteTallyIs (m : Memory) (out out' : List ℕ) (r : Result (ℕ × Tally × ℕ) Reason) : Type 0 where
  pub answer : r ≡ tally_with (written m (length out)) (record_in m)
  pub bytes : out' ≡ output (written m (length out)) (writing (record_in m)) out
