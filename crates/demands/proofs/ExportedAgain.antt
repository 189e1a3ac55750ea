-- Read, write, read, write, of the exported functions. Assumes nothing.
use Rattle.lists.proofs.Prelude.{ℕ, ◌≤◌, ◌<◌, List, ◌≡◌, refl, sym, ap, ◌∙◌, arith, length, take}
use Rattle.lists.specs.All.{All}
use Rattle.tables.specs.Memory.{Memory}
use Rattle.tables.specs.Numbers.{depth_limit, text_limit, number_of}
use Rattle.tables.specs.Record.{all_nodes, all_props}
use Rattle.tables.specs.declared.Reason.{Reason}
use Rattle.tables.specs.declared.Reason.TheVariants.{TooDeep}
use Rattle.fit.specs.Record.{record_in}
use Rattle.parser.specs.Read.{read_strict}
use Rattle.reader.specs.Lent.{Lent, answers, ReadIs}
use Rattle.serialize.specs.Form.{written}
use Rattle.serialize_laws.specs.Back.{Named, BeginsAll}
use Rattle.serialize_laws.specs.Depth.{depth_of}
use Rattle.c_answers.specs.Structs.{reading_in_c, writing_in_c}
use Rattle.c_answers.specs.declared.SgfReading.{SgfReading}
use Rattle.c_answers.specs.declared.SgfWriting.{SgfWriting}
use Rattle.sgf.specs.ReadInC.{ReadInC}
use Rattle.sgf.specs.ChangeInC.{WriteInC}
use Rattle.demands.specs.Cells.{counts_read}
use Rattle.demands.specs.Holding.{holding}
use Rattle.demands.proofs.Exported.{shown-accepted, shown-wrote}
use Rattle.demands.proofs.Numbers.{number-once}
use Rattle.demands.proofs.RoundTrip.{deep-nine, nine-deep, writes_again}
use Rattle.std.specs.Prelude.{Result, Ok, Err}
use Rattle.tables.specs.Refusals.{refusal}
use Rattle.tables.specs.declared.Counts.{Counts}
use Rattle.tables.specs.declared.Refusal.{Refusal}

-- what was read and written by them, under the scope's premises; the writing is within the text limit
module _ {i i₂ : ℕ} (t : List ℕ) (before after : Lent) (a : SgfReading) (x : ReadInC i (read_strict t) before after a) (z : a.number ≡ 0)
    (b : BeginsAll t) (nm : All Named (all_props (all_nodes (record_in (holding t (counts_read a) after))))) (out out' : List ℕ) (r : SgfWriting)
    (w : WriteInC (holding t (counts_read a) after) out out' r) (v : r.number ≡ 0) (l : r.length ≤ text_limit)
    (before₂ after₂ : Lent) (a₂ : SgfReading) (x₂ : ReadInC i₂ (read_strict (take r.length out')) before₂ after₂ a₂) where
  -- the second reading's number is 9 where the writing is too deep, and nowhere else
  pub nine : (depth_limit < depth_of (take r.length out') → a₂.number ≡ 9) × (a₂.number ≡ 9 → depth_limit < depth_of (take r.length out'))
  nine = (λ d. shows ∙ ap (λ (y : Result Counts (Refusal Reason)). (reading_in_c i₂ y).number) (deep d), λ n. go (answers (read_strict (take r.length out')) before₂) refl n)
    where
      shows : a₂.number ≡ (reading_in_c i₂ (answers (read_strict (take r.length out')) before₂)).number
      shows = ap (λ (y : SgfReading). y.number) x₂.is

      is : (y : Result Counts (Refusal Reason)) → answers (read_strict (take r.length out')) before₂ ≡ y
          → ReadIs (read_strict (take r.length out')) before₂ after₂ y
      is y h = record { answer = sym h; tables = x₂.tables }

      deep : depth_limit < depth_of (take r.length out') → answers (read_strict (take r.length out')) before₂ ≡ Err (refusal TooDeep 0)
      deep d =
          deep-nine t before after (counts_read a) (shown-accepted (read_strict t) before after a x z) b nm
          out out' r.length (shown-wrote (holding t (counts_read a) after) out out' r w v) l d before₂ after₂
          (answers (read_strict (take r.length out')) before₂) (is (answers (read_strict (take r.length out')) before₂) refl)

      go : (y : Result Counts (Refusal Reason)) → answers (read_strict (take r.length out')) before₂ ≡ y → a₂.number ≡ 9
          → depth_limit < depth_of (take r.length out')
      go (Ok c) h n = absurd (omega (arith, n, shows, ap (λ (y : Result Counts (Refusal Reason)). (reading_in_c i₂ y).number) h))
      go (Err e) h n =
          let m : number_of e.reason ≡ 9 = sym (ap (λ (y : Result Counts (Refusal Reason)). (reading_in_c i₂ y).number) h) ∙ sym shows ∙ n in
          nine-deep t before after (counts_read a) (shown-accepted (read_strict t) before after a x z) b nm
          out out' r.length (shown-wrote (holding t (counts_read a) after) out out' r w v) l before₂ after₂ e.place
          (is (Err (refusal TooDeep e.place)) (h ∙ ap (λ (k : Reason). Err (refusal k e.place)) (number-once e.reason TooDeep m)))

  -- within the depth, where the second reading has number 0, the second writing has number 0 where it has room, the same length and the same bytes
  pub again : depth_of (take r.length out') ≤ depth_limit → a₂.number ≡ 0 → (out₂ out₂' : List ℕ) (r₂ : SgfWriting)
      → WriteInC (holding (take r.length out') (counts_read a₂) after₂) out₂ out₂' r₂ → r.length ≤ length out₂
      → (r₂.number ≡ 0) × (r₂.length ≡ r.length) × (take r.length out₂' ≡ take r.length out')
  again s z₂ out₂ out₂' r₂ w₂ m =
      let M₂ : Memory = holding (take r.length out') (counts_read a₂) after₂ in
      let q = writes_again t before after (counts_read a) (shown-accepted (read_strict t) before after a x z) b nm
      out out' r.length (shown-wrote (holding t (counts_read a) after) out out' r w v) l s
      before₂ after₂ (counts_read a₂) (shown-accepted (read_strict (take r.length out')) before₂ after₂ a₂ x₂ z₂)
      out₂ out₂' (written M₂ (length out₂)) (record { is = refl; bytes = w₂.bytes }) m in
      let f : r₂ ≡ writing_in_c (Ok r.length) = w₂.is ∙ ap writing_in_c q.0 in
      (ap (λ (y : SgfWriting). y.number) f, ap (λ (y : SgfWriting). y.length) f, q.1)
