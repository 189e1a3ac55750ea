-- The exported line of a record: its numbers are the writer's, and it says what sgf_write, sgf_tally and sgf_tag say. Assumes nothing.
use Rattle.lists.proofs.Prelude.{ℕ, ◌<◌, List, ◌≡◌, refl, sym, ap, ◌∙◌, arith, length, take}
use Rattle.tables.specs.Memory.{Memory}
use Rattle.tables.specs.Record.{Tree}
use Rattle.fit.specs.Record.{record_in}
use Rattle.serialize.specs.Form.{writing, written, output}
use Rattle.season_tag.specs.Tag.{tag_of}
use Rattle.c_answers.specs.Structs.{writing_in_c}
use Rattle.c_answers.specs.declared.SgfWriting.{SgfWriting}
use Rattle.sgf.specs.ChangeInC.{WriteInC}
use Rattle.c_tally.specs.TallyInC.{tally_or_number}
use Rattle.c_tally.specs.LineInC.{no_line_in_c, line_in_c, LineInC}
use Rattle.c_tally.specs.declared.SgfLine.{SgfLine}
use Rattle.c_tally.specs.declared.SgfTally.{SgfTally}
use Rattle.demands.specs.When.{Exactly, Writes, Unwritten}
use Rattle.demands.specs.Lists.{OneOf, writer_numbers}
use Rattle.demands.specs.Requests.{writing_of, tally_in}
use Rattle.demands.proofs.AskedMore.{tallied}
use Rattle.demands.proofs.Writings.{wrote-bytes}
use Rattle.demands.proofs.Written.{writing-exactly, writing-stays, writing-listed, writes-answer}
use Rattle.std.specs.Prelude.{Result, Ok, Err}
use Rattle.tables.specs.declared.Reason.{Reason}

by-writer : (w : Result ℕ Reason) (ts : List Tree) → writing_of (line_in_c w ts) ≡ writing_in_c w
by-writer (Ok n) ts = refl
by-writer (Err x) ts = refl

module _ (m : Memory) (out out' : List ℕ) (r : SgfLine) (s : LineInC m out out' r) where
  -- its number, length and bytes are those of a writing
  shown : WriteInC m out out' (writing_of r)
  shown = record { is = ap writing_of s.is ∙ by-writer (written m (length out)) (record_in m); bytes = s.bytes }

  pub line-exactly : Exactly r.number (Writes m (length out)) (Unwritten m (length out))
  line-exactly = writing-exactly m out out' (writing_of r) shown

  pub line_stays : 0 < r.number → out' ≡ out
  line_stays = writing-stays m out out' (writing_of r) shown

  pub line-listed : OneOf writer_numbers r.number
  line-listed = writing-listed m out out' (writing_of r) shown

  pub line-zeros : 0 < r.number → r ≡ no_line_in_c r.number
  line-zeros l = go (written m (length out)) s.is
    where
      go : (w : Result ℕ Reason) → r ≡ line_in_c w (record_in m) → r ≡ no_line_in_c r.number
      go (Ok n) e = absurd (omega (arith, l, ap (λ (z : SgfLine). z.number) e))
      go (Err x) e = e ∙ ap no_line_in_c (sym (ap (λ (z : SgfLine). z.number) e))

  pub line-written : (q : SgfWriting) (v : List ℕ) → WriteInC m out v q → (q ≡ writing_of r) × (v ≡ out')
  line-written q v w = (w.is ∙ sym shown.is, w.bytes ∙ sym s.bytes)

  module _ (z : r.number ≡ 0) where
    done : written m (length out) ≡ Ok (length (writing (record_in m)))
    done = writes-answer m (length out) (line-exactly.zero.0 z)

    line-is : r ≡ line_in_c (Ok (length (writing (record_in m)))) (record_in m)
    line-is = s.is ∙ ap (λ (w : Result ℕ Reason). line_in_c w (record_in m)) done

    pub line-tallied : (t : SgfTally) → t ≡ tally_or_number m → t ≡ tally_in r
    line-tallied t h = tallied m t h (line-exactly.zero.0 z).fits ∙ sym (ap tally_in line-is)

    pub line-tagged : r.tag ≡ tag_of (take r.length out')
    line-tagged =
        let b = wrote-bytes m out out' _ (record { is = sym done; bytes = s.bytes ∙ ap (λ (w : Result ℕ Reason). output w (writing (record_in m)) out) done }) in
        ap (λ (y : SgfLine). y.tag) line-is ∙ ap tag_of (sym (ap (λ (y : SgfLine). take y.length out') line-is ∙ b.1))
