-- Read, write and read of the exported functions: which numbers the writing and the second reading give. Assumes nothing.
use Rattle.lists.proofs.Prelude.{ℕ, ◌≤◌, ◌<◌, true, false, List, ◌≡◌, refl, ap, ◌∙◌, subst⁻¹, arith, length, take}
use Rattle.lists.specs.All.{All}
use Rattle.tables.specs.Memory.{Memory}
use Rattle.tables.specs.Numbers.{depth_limit, text_limit}
use Rattle.tables.specs.Record.{Tree, all_nodes, all_props}
use Rattle.tables.specs.Rows.{tables, counts_of}
use Rattle.tables.specs.declared.Reason.TheVariants.{NoRoom}
use Rattle.fit.specs.Record.{record_in}
use Rattle.parser.specs.Read.{accepted, read_strict}
use Rattle.reader.specs.Lent.{Lent, answers, ReadIs}
use Rattle.serialize.specs.Form.{writing, written, WriteIs}
use Rattle.serialize_laws.specs.Back.{Named, BeginsAll}
use Rattle.serialize_laws.specs.Depth.{depth_of}
use Rattle.c_answers.specs.Structs.{reading_in_c, writing_in_c}
use Rattle.c_answers.specs.declared.SgfReading.{SgfReading}
use Rattle.c_answers.specs.declared.SgfWriting.{SgfWriting}
use Rattle.sgf.specs.ReadInC.{ReadInC}
use Rattle.sgf.specs.ChangeInC.{WriteInC}
use Rattle.demands.specs.Cells.{has_room, counts_read}
use Rattle.demands.specs.Holding.{holding}
use Rattle.demands.proofs.Exported.{shown-accepted, shown-wrote}
use Rattle.demands.proofs.RoundTrip.{named-writes, back, reads-again, room-exactly}
use Rattle.demands.proofs.Writings.{wrote-bytes}
use Rattle.std.specs.Prelude.{Ok, Err}
use Rattle.tables.specs.Refusals.{refusal}

module _ {i : ℕ} (t : List ℕ) (before after : Lent) (a : SgfReading) (x : ReadInC i (read_strict t) before after a) (z : a.number ≡ 0)
    (b : BeginsAll t) (nm : All Named (all_props (all_nodes (record_in (holding t (counts_read a) after))))) (out out' : List ℕ) (r : SgfWriting)
    (w : WriteInC (holding t (counts_read a) after) out out' r) where
  abbrev M : Memory
  M = holding t (counts_read a) after

  abbrev W : List ℕ
  W = writing (record_in (holding t (counts_read a) after))

  reads : ReadIs (read_strict t) before after (Ok (counts_read a))
  reads = shown-accepted (read_strict t) before after a x z

  pub first-full : length out < length W → (r.number ≡ 14) × (out' ≡ out)
  first-full h =
      let q = (named-writes t before after (counts_read a) reads b nm out out' (written M (length out)) (record { is = refl; bytes = w.bytes })).1 h in
      (ap (λ (y : SgfWriting). y.number) (w.is ∙ ap writing_in_c q.0), q.1)

  module _ (h : length W ≤ length out) where
    first-zero : r.number ≡ 0
    first-zero =
        let q = (named-writes t before after (counts_read a) reads b nm out out' (written M (length out)) (record { is = refl; bytes = w.bytes })).0 h in
        ap (λ (y : SgfWriting). y.number) (w.is ∙ ap writing_in_c q.0)

    wrote : WriteIs (holding t (counts_read a) after) out out' (Ok r.length)
    wrote = shown-wrote M out out' r w first-zero

    pub first-written : (r.number ≡ 0) × (r.length ≡ length W) × (take r.length out' ≡ W)
    first-written = (first-zero, (wrote-bytes M out out' r.length wrote).0, (wrote-bytes M out out' r.length wrote).1)

    module _ (l : length W ≤ text_limit) (s : depth_of W ≤ depth_limit) where
      abbrev U : List ℕ
      U = take r.length out'

      short : r.length ≤ text_limit
      short = omega (arith, l, first-written.1)

      low : depth_of U ≤ depth_limit
      low = subst⁻¹ (λ (y : List ℕ). depth_of y ≤ depth_limit) first-written.2 s

      abbrev again : List Tree
      again = (back t before after (counts_read a) reads b nm out out' r.length wrote short low).again

      reads_so : read_strict U ≡ accepted again
      reads_so = reads-again t before after (counts_read a) reads b nm out out' r.length wrote short low

      module _ {i₂ : ℕ} (before₂ after₂ : Lent) (a₂ : SgfReading) (x₂ : ReadInC i₂ (read_strict U) before₂ after₂ a₂) where
        is : (has_room (counts_of (tables again)) before₂ ≡ true → answers (read_strict U) before₂ ≡ Ok (counts_of (tables again)))
            × (has_room (counts_of (tables again)) before₂ ≡ false → answers (read_strict U) before₂ ≡ Err (refusal NoRoom 0))
        is =
            room-exactly t before after (counts_read a) reads b nm out out' r.length wrote short low
            before₂ after₂ (answers (read_strict U) before₂) (record { answer = refl; tables = x₂.tables })

        second-zero : has_room (counts_of (tables again)) before₂ ≡ true → (a₂.number ≡ 0) × (counts_read a₂ ≡ counts_of (tables again))
        second-zero q = let f : a₂ ≡ reading_in_c i₂ (Ok (counts_of (tables again))) = x₂.is
            ∙ ap (reading_in_c i₂) (is.0 q) in (ap (λ (y : SgfReading). y.number) f, ap counts_read f)

        second-full : has_room (counts_of (tables again)) before₂ ≡ false → a₂.number ≡ 14
        second-full q = ap (λ (y : SgfReading). y.number) (x₂.is ∙ ap (reading_in_c i₂) (is.1 q))

      pub second : (ts : List Tree) × (read_strict U ≡ accepted ts) × ((i₂ : ℕ) (before₂ after₂ : Lent) (a₂ : SgfReading) → ReadInC i₂ (read_strict U) before₂ after₂ a₂
          → (has_room (counts_of (tables ts)) before₂ ≡ true → (a₂.number ≡ 0) × (counts_read a₂ ≡ counts_of (tables ts))) × (has_room (counts_of (tables ts)) before₂ ≡ false → a₂.number ≡ 14))
      second = (again, reads_so, λ i₂ before₂ after₂ a₂ x₂. (second-zero before₂ after₂ a₂ x₂, second-full before₂ after₂ a₂ x₂))
