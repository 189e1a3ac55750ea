-- Demand 2, right: one record has one writing; reading answers as the scope's rules say, accepted tables fit and denote what was read, and a writing is read back.
-- Assumes nothing.
use Rattle.lists.proofs.Prelude.{ℕ, ◌≤◌, ◌<◌, Bool, true, false, List, ◌++◌, map, ◌⊎◌, ◌≡◌, length, take, drop}
use Rattle.lists.specs.All.{All}
use Rattle.go.specs.Marks.{all_good}
use Rattle.go.specs.Value.{areas_of}
use Rattle.lexer.specs.Token.{Prop}
use Rattle.go_shape.specs.Shape.{shape_of}
use Rattle.go_shape.specs.declared.Shape.TheVariants.{ManyPoints}
use Rattle.values.specs.Read.{read_identifier}
use Rattle.tables.specs.Memory.{Memory}
use Rattle.tables.specs.Numbers.{depth_limit, text_limit}
use Rattle.tables.specs.Record.{Tree, all_nodes, all_props}
use Rattle.tables.specs.Rows.{tables, counts_of}
use Rattle.tables.specs.declared.Counts.{Counts}
use Rattle.tables.specs.declared.Reason.TheVariants.{TextTooLong, TooDeep, NoRoom}
use Rattle.fit.specs.Fit.{Fit}
use Rattle.fit.specs.Record.{raws_of, record_of, rows_in, record_in}
use Rattle.parser.specs.Read.{refused, accepted, read, read_strict}
use Rattle.reader.specs.Lent.{Lent, ReadIs}
use Rattle.reader.proofs.Theorems.{counts-are-lengths}
use Rattle.reader_laws.specs.Enough.{strict_rows, Lends}
use Rattle.reader_laws.proofs.Lent.{read_fits, read-rows}
use Rattle.ask.specs.Ask.{go_answer}
use Rattle.go.specs.Value.{is_go}
use Rattle.serialize.specs.Form as form
use Rattle.serialize.specs.Form.{writing, WriteIs}
use Rattle.serialize_laws.specs.Alike.{AlikeProp, Alike, OneSet, Among}
use Rattle.serialize_laws.specs.Back.{Named, BeginsAll, placeless_tree}
use Rattle.serialize_laws.specs.Depth.{depth_of}
use Rattle.serialize_laws.specs.Same.{Pairs, SameTree, ReadsBack}
use Rattle.serialize_laws.proofs.Aside as aside
use Rattle.serialize_laws.proofs.OneSet as sets
use Rattle.serialize_laws.proofs.OneWriting as one
use Rattle.serialize_laws.proofs.Theorem as theorem
use Rattle.c_answers.specs.declared.SgfReading.{SgfReading}
use Rattle.c_answers.specs.declared.SgfWriting.{SgfWriting}
use Rattle.sgf.specs.ReadInC.{ReadInC}
use Rattle.sgf.specs.ChangeInC.{WriteInC}
use Rattle.demands.specs.Cells.{has_room, counts_read}
use Rattle.demands.specs.Holding.{holding}
use Rattle.demands.proofs.Exported as exported
use Rattle.demands.proofs.ExportedAgain as again
use Rattle.demands.proofs.RoundTrip as trip
use Rattle.demands.proofs.Writings as writings
use Rattle.std.specs.Prelude.{Result, Ok, Err}
use Rattle.tables.specs.Refusals.{refusal}
use Rattle.tables.specs.declared.Reason.{Reason}
use Rattle.tables.specs.declared.Refusal.{Refusal}
-- what strict reading accepts, lenient reading accepts with the same record; the numbers of sgf_write and of the second sgf_read_strict, by room
pub use Rattle.demands.proofs.Demand2Exported.{lenient-accepts-more, exported-more, exported-full, exported-first, exported-second}
-- in tables that fit, as readings leave them, a root has depth 0 and any other node its parent's plus 1, so none is above its node's number; the depths of small texts
pub use Rattle.demands.proofs.Depths.{fit-root-depth, fit-child-depth, fit-depth-below, reading-depths, exported-depths, depth_below, depths-computed}

-- ---- the viewer's question: one record, one writing

-- records that are alike, whatever the order of points, the spelling of rectangles, white space and places in their texts, have one writing
pub same-written : (ts us : List Tree) → Alike ts us → writing ts ≡ writing us
same-written = one.same-written

-- two texts that are read as such records, strictly or not, by any two machines
module _ (len len' : Bool) (t u : List ℕ) (before after before' after' : Lent) (c c' : Counts)
    (x : ReadIs (read len t) before after (Ok c)) (y : ReadIs (read len' u) before' after' (Ok c'))
    (ts us : List Tree) (e : read len t ≡ accepted ts) (e' : read len' u ≡ accepted us) (a : Alike ts us) where
  -- what both write is the same bytes
  pub readings-written : (out out₁ out' out₁' : List ℕ) (n n' : ℕ) → WriteIs (holding t c after) out out₁ (Ok n) → WriteIs (holding u c' after') out' out₁' (Ok n')
      → (n ≡ n') × (take n out₁ ≡ take n' out₁')
  readings-written = writings.readings-written len t before after c x len' u before' after' c' y ts us e e' a

  -- and with as much room both give one answer: neither is refused where the other is not
  pub readings-answer : (room : ℕ) → form.written (holding t c after) room ≡ form.written (holding u c' after') room
  readings-answer = writings.readings-answer len t before after c x len' u before' after' c' y ts us e e' a

-- so it is of the two exported readings, each with either: number 0 everywhere gives the same length and the same bytes
pub exported-written : {i i' : ℕ} (len len' : Bool) (t u : List ℕ) (before after before' after' : Lent) (a a' : SgfReading)
    → ReadInC i (read len t) before after a → a.number ≡ 0 → ReadInC i' (read len' u) before' after' a' → a'.number ≡ 0
    → (ts us : List Tree) → read len t ≡ accepted ts → read len' u ≡ accepted us → Alike ts us → (out out₁ out' out₁' : List ℕ) (r r' : SgfWriting)
    → WriteInC (holding t (counts_read a) after) out out₁ r → r.number ≡ 0 → WriteInC (holding u (counts_read a') after') out' out₁' r' → r'.number ≡ 0
    → (r.length ≡ r'.length) × (take r.length out₁ ≡ take r'.length out₁')
exported-written = exported.one-writing

-- so do any two memories that hold such records
pub memories-written : (m m' : Memory) → Alike (record_in m) (record_in m') → (out out₁ out' out₁' : List ℕ) (n n' : ℕ)
    → WriteIs m out out₁ (Ok n) → WriteIs m' out' out₁' (Ok n') → (n ≡ n') × (take n out₁ ≡ take n' out₁')
memories-written = writings.one-writing

-- properties of one set of points are alike
pub set-alike : (k : ℕ) → is_go k ≡ true → (p q : Prop) → OneSet p q → AlikeProp k p q
set-alike = sets.set-alike

-- and the same values in any order, each as often as one likes, are one set
pub order-one : (p q : Prop) → read_identifier q.name ≡ read_identifier p.name → shape_of (read_identifier p.name) ≡ ManyPoints → all_good (areas_of (raws_of p)) ≡ true
    → Among (raws_of p) (raws_of q) → Among (raws_of q) (raws_of p) → OneSet p q
order-one = sets.order-one

-- records that differ in nothing but places are written alike
pub written-alike : (ts us : List Tree) → map placeless_tree ts ≡ map placeless_tree us → writing ts ≡ writing us
written-alike = aside.written-alike

-- ---- an accepted reading, strict or lenient

module _ (len : Bool) (t : List ℕ) (before after : Lent) (c : Counts) (x : ReadIs (read len t) before after (Ok c)) where
  -- the counts given back are the lengths of the tables of the record that the definition reads
  pub counts-read : (ts : List Tree) × (read len t ≡ accepted ts) × (c ≡ counts_of (tables ts))
  counts-read = counts-are-lengths len t before after c x

  -- an accepted reading fits its text
  pub reading-fits : Fit (holding t c after) ≡ true
  reading-fits = read_fits len t before after c x

  -- its rows are those of the record, and denote it
  pub reading-denotes : (ts : List Tree) × (read len t ≡ accepted ts) × (rows_in (holding t c after) ≡ tables ts) × (record_of t (rows_in (holding t c after)) ≡ ts)
  reading-denotes = read-rows len t before after c x

  -- what the writer makes of these tables is the writing of that record
  pub reading-written : (out out' : List ℕ) (n : ℕ) → WriteIs (holding t c after) out out' (Ok n) → (ts : List Tree) × (read len t ≡ accepted ts) × (take n out' ≡ writing ts)
  reading-written = writings.bytes-written len t before after c x

-- ---- read, write, read, write: a strict reading of a text whose trees each begin with `(` and whose raw identifiers are uppercase, not empty

module _ (t : List ℕ) (before after : Lent) (k : Counts) (x : ReadIs (read_strict t) before after (Ok k))
    (b : BeginsAll t) (nm : All Named (all_props (all_nodes (record_in (holding t k after))))) where
  -- the writer writes it where the output has room, and refuses it with 14 where it has not: never 19 or 15
  pub named-writes : (out out' : List ℕ) (r : Result ℕ Reason) → WriteIs (holding t k after) out out' r
      → (length (writing (record_in (holding t k after))) ≤ length out
      → (r ≡ Ok (length (writing (record_in (holding t k after))))) × (out' ≡ writing (record_in (holding t k after)) ++ drop (length (writing (record_in (holding t k after)))) out))
      × (length out < length (writing (record_in (holding t k after))) → (r ≡ Err NoRoom) × (out' ≡ out))
  named-writes = trip.named-writes t before after k x b nm

  module _ (out out' : List ℕ) (n : ℕ) (w : WriteIs (holding t k after) out out' (Ok n)) (l : n ≤ text_limit) where
    -- n bytes within the text limit: a strict reading of them is 9 where they are too deep
    pub deep-nine : depth_limit < depth_of (take n out') → (before₂ after₂ : Lent) (r : Result Counts (Refusal Reason)) → ReadIs (read_strict (take n out')) before₂ after₂ r → r ≡ Err (refusal TooDeep 0)
    deep-nine = trip.deep-nine t before after k x b nm out out' n w l

    -- and only there
    pub nine-deep : (before₂ after₂ : Lent) (p : ℕ) → ReadIs (read_strict (take n out')) before₂ after₂ (Err (refusal TooDeep p)) → depth_limit < depth_of (take n out')
    nine-deep = trip.nine-deep t before after k x b nm out out' n w l

    module _ (s : depth_of (take n out') ≤ depth_limit) where
      -- within the depth it is accepted where the tables have room, which tables for n bytes have
      pub read_again : (before₂ after₂ : Lent) (r : Result Counts (Refusal Reason)) → ReadIs (read_strict (take n out')) before₂ after₂ r → Lends (strict_rows n) before₂ → (k₂ : Counts) × (r ≡ Ok k₂)
      read_again before₂ after₂ r y h = (_, trip.room-enough t before after k x b nm out out' n w l s before₂ after₂ r y h)

      -- it reads as a record, and is accepted, with its counts, where tables have room for these, else 14
      pub read-room : (ts : List Tree) × (read_strict (take n out') ≡ accepted ts) × ((before₂ after₂ : Lent) (r : Result Counts (Refusal Reason)) → ReadIs (read_strict (take n out')) before₂ after₂ r
          → (has_room (counts_of (tables ts)) before₂ ≡ true → r ≡ Ok (counts_of (tables ts))) × (has_room (counts_of (tables ts)) before₂ ≡ false → r ≡ Err (refusal NoRoom 0)))
      read-room = (_, trip.reads-again t before after k x b nm out out' n w l s, trip.room-exactly t before after k x b nm out out' n w l s)

      module _ (before₂ after₂ : Lent) (k₂ : Counts) (y : ReadIs (read_strict (take n out')) before₂ after₂ (Ok k₂)) where
        -- with the same trees, game types, parents, identifiers and Go values, and other values as they were raw
        pub same-record : Pairs SameTree (record_in (holding t k after)) (record_in (holding (take n out') k₂ after₂))
        same-record = trip.same-record t before after k x b nm out out' n w l s before₂ after₂ k₂ y

        -- the same rows of trees and nodes
        pub same_rows : ((rows_in (holding (take n out') k₂ after₂)).trees ≡ (rows_in (holding t k after)).trees) × ((rows_in (holding (take n out') k₂ after₂)).nodes ≡ (rows_in (holding t k after)).nodes)
        same_rows = (trip.same-tree-rows t before after k x b nm out out' n w l s before₂ after₂ k₂ y, trip.same-node-rows t before after k x b nm out out' n w l s before₂ after₂ k₂ y)

        -- the same Go answer for every property number
        pub same-go : (p : ℕ) → go_answer (holding (take n out') k₂ after₂) p ≡ go_answer (holding t k after) p
        same-go = trip.same-go t before after k x b nm out out' n w l s before₂ after₂ k₂ y

        -- and the writer leaves the same bytes
        pub writes_again : (out₂ out₂' : List ℕ) (r : Result ℕ Reason) → WriteIs (holding (take n out') k₂ after₂) out₂ out₂' r → n ≤ length out₂ → (r ≡ Ok n) × (take n out₂' ≡ take n out')
        writes_again = trip.writes_again t before after k x b nm out out' n w l s before₂ after₂ k₂ y

-- ---- all of this is so of the exported functions: number 0 is acceptance with what the struct shows

-- a reading, strict or lenient
pub exported-reads : {i : ℕ} (len : Bool) (t : List ℕ) (before after : Lent) (a : SgfReading) → ReadInC i (read len t) before after a → a.number ≡ 0 → ReadIs (read len t) before after (Ok (counts_read a))
exported-reads len t = exported.shown-accepted (read len t)

-- a writing
pub exported-writes : (m : Memory) (out out' : List ℕ) (r : SgfWriting) → WriteInC m out out' r → r.number ≡ 0 → WriteIs m out out' (Ok r.length)
exported-writes = exported.shown-wrote

-- read, write, read, write, under the scope's premises
module _ {i i₂ : ℕ} (t : List ℕ) (before after : Lent) (a : SgfReading) (x : ReadInC i (read_strict t) before after a) (z : a.number ≡ 0)
    (b : BeginsAll t) (nm : All Named (all_props (all_nodes (record_in (holding t (counts_read a) after))))) (out out' : List ℕ) (r : SgfWriting)
    (w : WriteInC (holding t (counts_read a) after) out out' r) (v : r.number ≡ 0) (l : r.length ≤ text_limit)
    (before₂ after₂ : Lent) (a₂ : SgfReading) (x₂ : ReadInC i₂ (read_strict (take r.length out')) before₂ after₂ a₂) where
  -- the second reading's number is 9 where the writing is too deep, and nowhere else
  pub exported-nine : (depth_limit < depth_of (take r.length out') → a₂.number ≡ 9) × (a₂.number ≡ 9 → depth_limit < depth_of (take r.length out'))
  exported-nine = again.nine t before after a x z b nm out out' r w v l before₂ after₂ a₂ x₂

  -- where it is 0 the second writing's is 0 if it has room, with the same length and the same bytes
  pub exported-again : depth_of (take r.length out') ≤ depth_limit → a₂.number ≡ 0 → (out₂ out₂' : List ℕ) (r₂ : SgfWriting)
      → WriteInC (holding (take r.length out') (counts_read a₂) after₂) out₂ out₂' r₂ → r.length ≤ length out₂
      → (r₂.number ≡ 0) × (r₂.length ≡ r.length) × (take r.length out₂' ≡ take r.length out')
  exported-again = again.again t before after a x z b nm out out' r w v l before₂ after₂ a₂ x₂

-- a text beyond the limit, whatever it is, is 1: a writing as well
pub long-one : (len : Bool) (t : List ℕ) (before after : Lent) (r : Result Counts (Refusal Reason)) → text_limit < length t → ReadIs (read len t) before after r → r ≡ Err (refusal TextTooLong 0)
long-one = trip.long-one

-- the same of the definitions alone
pub reads-back : (t : List ℕ) (ts : List Tree) → read_strict t ≡ accepted ts → BeginsAll t → All Named (all_props (all_nodes ts)) → length (writing ts) ≤ text_limit
    → (read_strict (writing ts) ≡ refused TooDeep 0) ⊎ ReadsBack ts
reads-back = theorem.reads-back
