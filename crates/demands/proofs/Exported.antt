-- The exported functions' structs against the contracts that Demand 2 speaks of. Assumes nothing.
use Rattle.lists.proofs.Prelude.{ℕ, List, Bool, ◌≡◌, refl, sym, ap, ◌∙◌, arith, length, take}
use Rattle.lists.proofs.Tests.{never}
use Rattle.parser.proofs.More.{lenient-accepts-more}
use Rattle.tables.specs.Memory.{Memory}
use Rattle.tables.specs.Record.{Tree}
use Rattle.fit.specs.Record.{record_in}
use Rattle.parser.specs.Read.{Answer, refused, accepted, read, read_strict, read_lenient}
use Rattle.serialize_laws.specs.Alike.{Alike}
use Rattle.reader.specs.Lent.{Lent, answers, leaves, ReadIs}
use Rattle.serialize.specs.Form.{writing, written, output, WriteIs}
use Rattle.c_answers.specs.Structs.{reading_in_c, writing_in_c}
use Rattle.c_answers.specs.declared.SgfReading.{SgfReading}
use Rattle.c_answers.specs.declared.SgfWriting.{SgfWriting}
use Rattle.sgf.specs.ReadInC.{ReadInC}
use Rattle.sgf.specs.ChangeInC.{WriteInC}
use Rattle.demands.specs.Cells.{counts_read}
use Rattle.demands.specs.Holding.{holding}
use Rattle.demands.proofs.Numbers.{number-some}
use Rattle.demands.proofs.Writings.{readings-written}
use Rattle.std.specs.Prelude.{Result, Ok, Err}
use Rattle.tables.specs.Refusals.{refusal}
use Rattle.tables.specs.declared.Counts.{Counts}
use Rattle.tables.specs.declared.Reason.{Reason}
use Rattle.tables.specs.declared.Refusal.{Refusal}

-- an exported reading with number 0 is one that is accepted, with the counts that it shows
pub shown-accepted : {i : ℕ} (a : Answer) (before after : Lent) (r : SgfReading) → ReadInC i a before after r → r.number ≡ 0
    → ReadIs a before after (Ok (counts_read r))
shown-accepted {i} a before after r x z = go (answers a before) refl x.is
  where
    go : (v : Result Counts (Refusal Reason)) → answers a before ≡ v → r ≡ reading_in_c i v → ReadIs a before after (Ok (counts_read r))
    go (Ok c) e h = record { answer = ap (λ (y : SgfReading). Ok (counts_read y)) h ∙ sym e; tables = x.tables }
    go (Err r) e h = absurd (omega (arith, number-some r.reason, ap (λ (y : SgfReading). y.number) h, z))

-- an exported writing with number 0 is one that was written, of the length that it shows
pub shown-wrote : (m : Memory) (out out' : List ℕ) (r : SgfWriting) → WriteInC m out out' r → r.number ≡ 0 → WriteIs m out out' (Ok r.length)
shown-wrote m out out' r x z = go (written m (length out)) refl x.is
  where
    go : (v : Result ℕ Reason) → written m (length out) ≡ v → r ≡ writing_in_c v → WriteIs m out out' (Ok r.length)
    go (Ok n) e h =
        let l : Ok n ≡ Ok r.length = ap Ok (sym (ap (λ (y : SgfWriting). y.length) h)) in
        record { is = sym l ∙ sym e; bytes = x.bytes ∙ ap (λ (a : Result ℕ Reason). output a (writing (record_in m)) out) (e ∙ l) }
    go (Err q) e h = absurd (omega (arith, number-some q, ap (λ (y : SgfWriting). y.number) h, z))

-- what strict reading accepts, lenient reading accepts: number 0, the same counts, the same tables
pub more-shown : {i i' : ℕ} (t : List ℕ) (before after after' : Lent) (r r' : SgfReading) → ReadInC i (read_strict t) before after r → r.number ≡ 0
    → ReadInC i' (read_lenient t) before after' r' → (r'.number ≡ 0) × (counts_read r' ≡ counts_read r) × (after' ≡ after)
more-shown {i} {i'} t before after after' r r' x z y = go (read_strict t) refl (shown-accepted (read_strict t) before after r x z)
  where
    go : (a : Answer) → read_strict t ≡ a → ReadIs (read_strict t) before after (Ok (counts_read r))
        → (r'.number ≡ 0) × (counts_read r' ≡ counts_read r) × (after' ≡ after)
    go (refused q p) e h = let w : Ok (counts_read r) ≡ Err (refusal q p) = h.answer ∙ ap (λ (a : Answer). answers a before) e in never cc
    go (accepted ts) e h =
        let m : read_lenient t ≡ read_strict t = lenient-accepts-more t ts e ∙ sym e in
        let f : r' ≡ reading_in_c i' (Ok (counts_read r)) = y.is ∙ ap (λ (a : Answer). reading_in_c i' (answers a before)) m
        ∙ ap (reading_in_c i') (sym h.answer) in
        (ap (λ (v : SgfReading). v.number) f, ap counts_read f, y.tables ∙ ap (λ (a : Answer). leaves a before) m ∙ sym h.tables)

-- one record, one writing
pub one-writing : {i i' : ℕ} (len len' : Bool) (t u : List ℕ) (before after before' after' : Lent) (a a' : SgfReading)
    → ReadInC i (read len t) before after a → a.number ≡ 0 → ReadInC i' (read len' u) before' after' a' → a'.number ≡ 0
    → (ts us : List Tree) → read len t ≡ accepted ts → read len' u ≡ accepted us → Alike ts us → (out out₁ out' out₁' : List ℕ) (r r' : SgfWriting)
    → WriteInC (holding t (counts_read a) after) out out₁ r → r.number ≡ 0 → WriteInC (holding u (counts_read a') after') out' out₁' r' → r'.number ≡ 0
    → (r.length ≡ r'.length) × (take r.length out₁ ≡ take r'.length out₁')
one-writing len len' t u before after before' after' a a' x z x' z' ts us e e' al out out₁ out' out₁' r r' w v w' v' =
    readings-written len t before after (counts_read a) (shown-accepted (read len t) before after a x z)
    len' u before' after' (counts_read a') (shown-accepted (read len' u) before' after' a' x' z') ts us e e' al out out₁ out' out₁' r.length r'.length
    (shown-wrote (holding t (counts_read a) after) out out₁ r w v) (shown-wrote (holding u (counts_read a') after') out' out₁' r' w' v')
