-- Demand 2 of the two readings and of sgf_write: what is accepted strictly is accepted leniently; after a strict reading under the scope's premises the writing is 0 or 14, and the second reading is 0 or 14 within the limits; passed on by Demand2.
-- Assumes nothing.
use Rattle.lists.proofs.Prelude.{ℕ, ◌≤◌, ◌<◌, true, false, List, ◌≡◌, length, take}
use Rattle.lists.specs.All.{All}
use Rattle.tables.specs.Numbers.{depth_limit, text_limit}
use Rattle.tables.specs.Record.{Tree, all_nodes, all_props}
use Rattle.tables.specs.Rows.{tables, counts_of}
use Rattle.fit.specs.Record.{record_in}
use Rattle.parser.specs.Read.{accepted, read_strict, read_lenient}
use Rattle.parser.proofs.More as more
use Rattle.reader.specs.Lent.{Lent}
use Rattle.serialize.specs.Form.{writing}
use Rattle.serialize_laws.specs.Back.{Named, BeginsAll}
use Rattle.serialize_laws.specs.Depth.{depth_of}
use Rattle.c_answers.specs.declared.SgfReading.{SgfReading}
use Rattle.c_answers.specs.declared.SgfWriting.{SgfWriting}
use Rattle.sgf.specs.ReadInC.{ReadInC}
use Rattle.sgf.specs.ChangeInC.{WriteInC}
use Rattle.demands.specs.Cells.{has_room, counts_read}
use Rattle.demands.specs.Holding.{holding}
use Rattle.demands.proofs.Exported as exported
use Rattle.demands.proofs.ExportedRoom as room

-- what strict reading accepts, lenient reading accepts with the same record
pub lenient-accepts-more : (t : List ℕ) (ts : List Tree) → read_strict t ≡ accepted ts → read_lenient t ≡ accepted ts
lenient-accepts-more = more.lenient-accepts-more

-- what sgf_read_strict accepts, sgf_read_lenient accepts, with the same counts and tables
pub exported-more : {i i' : ℕ} (t : List ℕ) (before after after' : Lent) (r r' : SgfReading) → ReadInC i (read_strict t) before after r → r.number ≡ 0
    → ReadInC i' (read_lenient t) before after' r' → (r'.number ≡ 0) × (counts_read r' ≡ counts_read r) × (after' ≡ after)
exported-more = exported.more-shown

-- the first reading is strict and 0; trees begin with `(`, and raw identifiers are uppercase, not empty; its tables are written
module _ {i : ℕ} (t : List ℕ) (before after : Lent) (a : SgfReading) (x : ReadInC i (read_strict t) before after a) (z : a.number ≡ 0)
    (b : BeginsAll t) (nm : All Named (all_props (all_nodes (record_in (holding t (counts_read a) after))))) (out out' : List ℕ) (r : SgfWriting)
    (w : WriteInC (holding t (counts_read a) after) out out' r) where
  -- 14 where the output is too short, and it stays
  pub exported-full : length out < length (writing (record_in (holding t (counts_read a) after))) → (r.number ≡ 14) × (out' ≡ out)
  exported-full = room.first-full t before after a x z b nm out out' r w

  module _ (h : length (writing (record_in (holding t (counts_read a) after))) ≤ length out) where
    -- else 0, with the writing and its length
    pub exported-first : (r.number ≡ 0) × (r.length ≡ length (writing (record_in (holding t (counts_read a) after))))
        × (take r.length out' ≡ writing (record_in (holding t (counts_read a) after)))
    exported-first = room.first-written t before after a x z b nm out out' r w h

    -- within the text limit and the depth the bytes read as a record: a strict reading of them is 0, with its counts, where tables have room for these, else 14
    pub exported-second : length (writing (record_in (holding t (counts_read a) after))) ≤ text_limit → depth_of (writing (record_in (holding t (counts_read a) after))) ≤ depth_limit
        → (ts : List Tree) × (read_strict (take r.length out') ≡ accepted ts)
        × ((i₂ : ℕ) (before₂ after₂ : Lent) (a₂ : SgfReading) → ReadInC i₂ (read_strict (take r.length out')) before₂ after₂ a₂
        → (has_room (counts_of (tables ts)) before₂ ≡ true → (a₂.number ≡ 0) × (counts_read a₂ ≡ counts_of (tables ts))) × (has_room (counts_of (tables ts)) before₂ ≡ false → a₂.number ≡ 14))
    exported-second = room.second t before after a x z b nm out out' r w h
