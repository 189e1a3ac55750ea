-- No second answer: of each public function, two answers that meet its contract are equal. Assumes nothing.
use Rattle.lists.proofs.Prelude.{ℕ, Bool, List, ◌≡◌, sym, ◌∙◌, ap}
use Rattle.lists.proofs.Once.{once_is}
use Rattle.lists.specs.Once.{Once}
use Rattle.tables.specs.declared.Counts.{Counts}
use Rattle.fit_nodes.specs.Nodes.{links_fit}
use Rattle.fit_spans.specs.LocalsParts.{parts_fit}
use Rattle.tables.specs.Memory.{Memory}
use Rattle.fit.specs.Fit.{Fit}
use Rattle.ask_value.specs.Access.{accessed, raw_value}
use Rattle.value_display.specs.declared.Kind.{Kind}
use Rattle.ask.specs.Ask.{DisplayIs, go_answer}
use Rattle.ask.specs.declared.GoAnswer.{GoAnswer}
use Rattle.fit.specs.Record.{record_in}
use Rattle.serialize.specs.Form.{writing, output, WriteIs, written_length}
use Rattle.edit_splice.specs.Splice.{replaced}
use Rattle.edit_answer.specs.Answer.{outcome_of, edited_for}
use Rattle.edit.specs.Lent.{EditIs}
use Rattle.std.specs.Prelude.{Result}
use Rattle.tables.specs.declared.Reason.{Reason}
use Rattle.tables.specs.declared.Refusal.{Refusal}

-- fit_nodes

module _ (counts : Counts) (trees nodes : List ℕ) where
  pub links-fit-once : Once (λ (r : Bool). r ≡ links_fit counts trees nodes)
  links-fit-once = once_is (links_fit counts trees nodes)

-- fit_spans

module _ (text : List ℕ) (counts : Counts) (nodes properties values : List ℕ) where
  pub parts-fit-once : Once (λ (r : Bool). r ≡ parts_fit text counts nodes properties values)
  parts-fit-once = once_is (parts_fit text counts nodes properties values)

-- fit

module _ (m : Memory) where
  pub fits-once : Once (λ (r : Bool). r ≡ Fit m)
  fits-once = once_is (Fit m)

-- ask_value

module _ (m : Memory) where
  pub access-once : (k : ℕ) → Once (λ (r : Result (ℕ × ℕ) Reason). r ≡ accessed m k)
  access-once k = once_is (accessed m k)

  -- of the bytes that are handed out
  pub value-once : (k : ℕ) → Once (λ (r : List ℕ). r ≡ raw_value m k)
  value-once k = once_is (raw_value m k)

-- ask

module _ (m : Memory) where
  -- of the answer and the bytes lent
  pub display-once : (k : ℕ) (kind : Kind) (out out1 out2 : List ℕ) (r1 r2 : Result ℕ Reason) → DisplayIs m k kind out out1 r1
      → DisplayIs m k kind out out2 r2 → (r1 ≡ r2) × (out1 ≡ out2)
  display-once k kind out out1 out2 r1 r2 x y = (x.is ∙ sym y.is, x.bytes ∙ sym y.bytes)

  pub go-value-once : (p : ℕ) → Once (λ (r : GoAnswer). r ≡ go_answer m p)
  go-value-once p = once_is (go_answer m p)

-- serialize

pub write-once : (m : Memory) (out : List ℕ) (r s : Result ℕ Reason) (x y : List ℕ)
    → WriteIs m out x r → WriteIs m out y s → (r ≡ s) × (x ≡ y)
write-once m out r s x y p q =
    let e : r ≡ s = p.is ∙ sym q.is in
    (e, p.bytes ∙ ap (λ (a : Result ℕ Reason). output a (writing (record_in m)) out) e ∙ sym q.bytes)

pub length-once : (m : Memory) → Once (λ (r : Result ℕ Reason). r ≡ written_length m)
length-once m = once_is (written_length m)

-- edit_splice

-- of every byte of the buffer
pub replace-once : (buffer : List ℕ) (used start end : ℕ) (new : List ℕ) → Once (λ (x : List ℕ). x ≡ replaced buffer used start end new)
replace-once buffer used start end new = once_is (replaced buffer used start end new)

-- edit_answer

pub decided-once : (m : Memory) (k : ℕ) (new : List ℕ)
    → Once (λ (r : Result ℕ (Refusal Reason)). r ≡ edited_for (outcome_of m k new))
decided-once m k new = once_is (edited_for (outcome_of m k new))

-- edit

-- the answer, every byte of the buffer, every number of the two tables
pub edit-once : (m x y : Memory) (k : ℕ) (new : List ℕ) (r s : Result ℕ (Refusal Reason)) → EditIs m x k new r → EditIs m y k new s → (r ≡ s) × (x ≡ y)
edit-once m x y k new r s p q = (p.answer ∙ sym q.answer, p.memory ∙ sym q.memory)
