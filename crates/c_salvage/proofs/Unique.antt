-- No second answer of the public functions of `salvage` and `c_salvage`. Assumes nothing.
use Rattle.lists.proofs.Prelude.{◌≡◌, sym, ◌∙◌, ap, List, ℕ}
use Rattle.lists.specs.Once.{Once}
use Rattle.lists.proofs.Once.{once_is}
use Rattle.reader.specs.Lent.{Lent}
use Rattle.parser.specs.Read.{read_lenient}
use Rattle.salvage_list.specs.ListRows.{text_changes}
use Rattle.salvage_laws.specs.Result.{salvage_of}
use Rattle.salvage.specs.Salvage.{SalvageIs, tables_left, list_left, bytes_left}
use Rattle.c_salvage.specs.SalvageInC.{salvage_in_c, SalvageInC}
use Rattle.c_salvage.specs.declared.SgfSalvage.{SgfSalvage}
use Rattle.std.specs.Prelude.{Result}
use Rattle.tables.specs.declared.Counts.{Counts}
use Rattle.tables.specs.declared.Reason.{Reason}
use Rattle.tables.specs.declared.Refusal.{Refusal}

pub salvage-once : (t : List ℕ) (before x y : Lent) (list k l out v w : List ℕ) (r s : Result (Counts × ℕ × ℕ) (Refusal Reason))
    → SalvageIs t before x list k out v r → SalvageIs t before y list l out w s → (r ≡ s) × (x ≡ y) × (k ≡ l) × (v ≡ w)
salvage-once t before x y list k l out v w r s f g =
    let e : r ≡ s = f.answer ∙ sym g.answer in (
      e,
      f.tables ∙ ap (λ (z : Result (Counts × ℕ × ℕ) (Refusal Reason)). tables_left z (read_lenient t) before) e ∙ sym g.tables,
      f.changes ∙ ap (λ (z : Result (Counts × ℕ × ℕ) (Refusal Reason)). list_left z (text_changes t) list) e ∙ sym g.changes,
      f.bytes ∙ ap (λ (z : Result (Counts × ℕ × ℕ) (Refusal Reason)). bytes_left z (salvage_of (read_lenient t)) out) e ∙ sym g.bytes,
    )

pub salvage-in-c-once : (s : Result (Counts × ℕ × ℕ) (Refusal Reason)) → Once (λ (r : SgfSalvage). r ≡ salvage_in_c s)
salvage-in-c-once s = once_is (salvage_in_c s)

pub salvage-c-once : (t : List ℕ) (before x y : Lent) (list k l out v w : List ℕ) (r s : SgfSalvage)
    → SalvageInC t before x list k out v r → SalvageInC t before y list l out w s → (r ≡ s) × (x ≡ y) × (k ≡ l) × (v ≡ w)
salvage-c-once t before x y list k l out v w r s f g =
    (f.is ∙ sym g.is, f.tables ∙ sym g.tables, f.changes ∙ sym g.changes, f.bytes ∙ sym g.bytes)
