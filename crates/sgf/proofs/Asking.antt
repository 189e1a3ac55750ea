-- Answers about a record in memory as they are shown. Assumes nothing.
use Rattle.lists.proofs.Prelude.{ℕ, List, ◌≡◌, ap, ◌∙◌, eq-eqb, ne_eqb, slice}
use Rattle.value_display.specs.declared.Kind.{Kind}
use Rattle.value_display.specs.declared.Kind.TheVariants.{Text, SimpleText}
use Rattle.value_display.specs.Display.{display_text, displayed, displayed_in}
use Rattle.values.specs.Read.{read_value}
use Rattle.ask_value.specs.Access.{accessed}
use Rattle.ask.specs.Ask.{display_for, display_raw, display_raw_in, display, display_in, DisplayIs}
use Rattle.tables.specs.Memory.{Memory}
use Rattle.fit.specs.Record.{record_in}
use Rattle.serialize.specs.Form.{writing, output, WriteIs}
use Rattle.edit.specs.Lent.{EditIs}
use Rattle.c_answers.specs.Structs.{display_in_c, writing_in_c, edit_in_c}
use Rattle.sgf.specs.ChangeInC.{WriteInC, EditInC}
use Rattle.c_answers.specs.declared.SgfEdit.{SgfEdit}
use Rattle.c_answers.specs.declared.SgfWriting.{SgfWriting}
use Rattle.sgf.specs.AskInC.{display_kind, DisplayInC, RawInC}
use Rattle.c_answers.specs.declared.SgfDisplay.{SgfDisplay}
use Rattle.std.specs.Prelude.{Option, Result, Ok}
use Rattle.tables.specs.declared.Reason.{Reason}
use Rattle.tables.specs.declared.Refusal.{Refusal}

pub kind-text : {k : ℕ} → k ≡ 0 → Text ≡ display_kind k
kind-text {k} e = rw (eq-eqb k 0 e)

pub kind-simple : {k : ℕ} → (k ≡ 0 → ⊥) → SimpleText ≡ display_kind k
kind-simple {k} e = rw (ne_eqb k 0 e)

-- what is shown of a display's answer, with the kind that a caller gives
pub display-shown : {m : Memory} {k : ℕ} {kind kind' : Kind} {out out' : List ℕ} {r : Result ℕ Reason} {d : SgfDisplay} → kind ≡ kind'
    → DisplayIs m k kind out out' r → d ≡ display_in_c r
    → DisplayInC m k kind' out out' d
display-shown {m} {k} {kind} {kind'} {out} e x d =
    record {
      is = d ∙ ap display_in_c (x.is ∙ ap (λ (y : Kind). display m.text (accessed m k) y out) e);
      bytes = x.bytes ∙ ap (λ (y : Kind). display_in m.text (accessed m k) y out) e;
    }

-- of a raw value's
pub raw-shown : {kind kind' : Kind} {raw out out' : List ℕ} {x : Option ℕ} {d : SgfDisplay} → kind ≡ kind'
    → x ≡ displayed (display_text kind (read_value raw)) out
    → out' ≡ displayed_in (display_text kind (read_value raw)) out → d ≡ display_in_c (display_for x) → RawInC kind' raw out out' d
raw-shown {kind} {kind'} {raw} {out} e x b d =
    record {
      is = d ∙ ap (λ (y : Option ℕ). display_in_c (display_for y)) x ∙ ap (λ (y : Kind). display_in_c (display_raw y raw out)) e;
      bytes = b ∙ ap (λ (y : Kind). display_raw_in y raw out) e;
    }

-- by its number or by its bytes a value is displayed alike
pub display-raw : {m : Memory} {k a e : ℕ} {kind : Kind} {out out' : List ℕ} {r : SgfDisplay} → accessed m k ≡ Ok (a, e) → DisplayInC m k kind out out' r
    → RawInC kind (slice a e m.text) out out' r
display-raw {m} {k} {a} {e} {kind} {out} h x =
    record {
      is = x.is ∙ ap (λ (y : Result (ℕ × ℕ) Reason). display_in_c (display m.text y kind out)) h;
      bytes = x.bytes ∙ ap (λ (y : Result (ℕ × ℕ) Reason). display_in m.text y kind out) h;
    }

-- what is shown of a writing's answer
pub write-shown : {m : Memory} {out out' : List ℕ} {r : Result ℕ Reason} {w : SgfWriting} → WriteIs m out out' r → w ≡ writing_in_c r → WriteInC m out out' w
write-shown {m} {out} x h = record { is = h ∙ ap writing_in_c x.is; bytes = x.bytes ∙ ap (λ (z : Result ℕ Reason). output z (writing (record_in m)) out) x.is }

-- of an edit's
pub edit-shown : {m m' : Memory} {k : ℕ} {new : List ℕ} {r : Result ℕ (Refusal Reason)} {w : SgfEdit} → EditIs m m' k new r → w ≡ edit_in_c m.counts r
    → EditInC m m' k new w
edit-shown {m} x h = record { is = h ∙ ap (edit_in_c m.counts) x.answer; memory = x.memory }
