-- Salvage: a text that strict reading accepts out of any text, and the list of what was changed.
use Rattle.std.specs.Prelude.{◌/◌, ◌≡◌, ◌&&◌, Result, Ok, Err}
use Rattle.lists.specs.Prelude.{ℕ, Bool, List, leb, ltb, length, pick}
use Rattle.tables.specs.Numbers.{text_limit, depth_limit}
use Rattle.tables.specs.Rows.{Tables, tables, counts_of}
use Rattle.tables.specs.Flat.{over}
use Rattle.tables.specs.declared.Counts.{Counts}
use Rattle.tables.specs.declared.Reason.TheVariants.{TextTooLong, TooDeep, NoRoom}
use Rattle.parser.specs.Read.{Answer, refused, accepted, read_lenient}
use Rattle.reader.specs.Lent.{Lent, roomy, leaves}
use Rattle.serialize.specs.Form.{writing}
use Rattle.serialize_laws.specs.Depth.{depth_of}
use Rattle.salvage_mend.specs.Changes.{Change}
use Rattle.salvage_mend.specs.Mend.{mended}
use Rattle.salvage_laws.specs.Result.{salvage_of}
use Rattle.salvage_list.specs.ListRows.{text_changes, change_rows}
use Rattle.tables.specs.Refusals.{refusal}
use Rattle.tables.specs.declared.Reason.{Reason}
use Rattle.tables.specs.declared.Refusal.{Refusal}

-- there is room for all: the rows of the four tables, the list with three numbers a change, the bytes of the result w
abbrev pub room_for_all : Tables → Lent → (w : List ℕ) → List Change → (rows room : ℕ) → Bool
room_for_all t l w cs rows room = roomy t l && (leb (length cs) (rows / 3) && leb (length w) room)

-- of the result w: 1 and 9; then, last of all, one 14 for all room; else the counts, the bytes and the changes (SCOPE 292)
abbrev pub result_answer : Counts → (w : List ℕ) → List Change → (roomy : Bool) → Result (Counts × ℕ × ℕ) (Refusal Reason)
result_answer c w cs enough =
    pick (ltb text_limit (length w)) (Err (refusal TextTooLong 0))
    (pick (ltb depth_limit (depth_of w)) (Err (refusal TooDeep 0))
    (pick enough (Ok (c, length w, length cs)) (Err (refusal NoRoom 0))))

-- first 1, 2 and 9 of the text, as lenient reading answers; then of the result (SCOPE 291, 292)
unfoldable pub salvage_gives : Answer → List Change → Lent → (rows room : ℕ) → Result (Counts × ℕ × ℕ) (Refusal Reason)
salvage_gives (refused r p) cs l rows room = Err (refusal r p)
salvage_gives (accepted ts) cs l rows room =
    result_answer (counts_of (tables ts)) (writing (mended ts)) cs (room_for_all (tables ts) l (writing (mended ts)) cs rows room)

-- of a text, with these numbers of the list and bytes of output lent
abbrev pub salvage_at : (t : List ℕ) → Lent → (list out : List ℕ) → Result (Counts × ℕ × ℕ) (Refusal Reason)
salvage_at t l list out = salvage_gives (read_lenient t) (text_changes t) l (length list) (length out)

-- the lent tables then: those of the lenient reading; a refusal changes none (SCOPE 293)
abbrev pub tables_left : Result (Counts × ℕ × ℕ) (Refusal Reason) → Answer → (before : Lent) → Lent
tables_left (Ok (c, n, k)) a before = leaves a before
tables_left (Err e) a before = before

-- the lent list then: the rows of the changes and what was behind them; a refusal changes none (SCOPE 294)
abbrev pub list_left : Result (Counts × ℕ × ℕ) (Refusal Reason) → List Change → (list : List ℕ) → List ℕ
list_left (Ok (c, n, k)) cs list = over (change_rows cs) list
list_left (Err e) cs list = list

-- the lent bytes then: the result and what was behind it; a refusal changes none (SCOPE 294)
abbrev pub bytes_left : Result (Counts × ℕ × ℕ) (Refusal Reason) → (w out : List ℕ) → List ℕ
bytes_left (Ok (c, n, k)) w out = over w out
bytes_left (Err e) w out = out

-- the answer and all that is lent, for every text
pub record SalvageIs (t : List ℕ) (before after : Lent) (list list' out out' : List ℕ) (r : Result (Counts × ℕ × ℕ) (Refusal Reason)) : Type 0 where
  pub answer : r ≡ salvage_at t before list out
  pub tables : after ≡ tables_left r (read_lenient t) before
  pub changes : list' ≡ list_left r (text_changes t) list
  pub bytes : out' ≡ bytes_left r (salvage_of (read_lenient t)) out
