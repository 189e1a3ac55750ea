-- A salvage shown as numbers. Assumes nothing.
use Rattle.lists.proofs.Prelude.{ℕ, ◌≡◌, ap, ◌∙◌, List}
use Rattle.parser.specs.Read.{read_lenient}
use Rattle.reader.specs.Lent.{Lent}
use Rattle.salvage_laws.specs.Result.{salvage_of}
use Rattle.salvage_list.specs.ListRows.{text_changes}
use Rattle.salvage.specs.Salvage.{SalvageIs, tables_left, list_left, bytes_left}
use Rattle.c_salvage.specs.SalvageInC.{salvage_in_c, SalvageInC}
use Rattle.c_salvage.specs.declared.SgfSalvage.{SgfSalvage}
use Rattle.std.specs.Prelude.{Result}
use Rattle.tables.specs.declared.Counts.{Counts}
use Rattle.tables.specs.declared.Reason.{Reason}
use Rattle.tables.specs.declared.Refusal.{Refusal}

pub salvage-shown : {t : List ℕ} {before after : Lent} {list list' out out' : List ℕ} {r : Result (Counts × ℕ × ℕ) (Refusal Reason)} {s : SgfSalvage}
    → SalvageIs t before after list list' out out' r → s ≡ salvage_in_c r → SalvageInC t before after list list' out out' s
salvage-shown {t} {before = before} {list = list} {out = out} i e =
    record {
      is = e ∙ ap salvage_in_c i.answer;
      tables = i.tables ∙ ap (λ (a : Result (Counts × ℕ × ℕ) (Refusal Reason)). tables_left a (read_lenient t) before) i.answer;
      changes = i.changes ∙ ap (λ (a : Result (Counts × ℕ × ℕ) (Refusal Reason)). list_left a (text_changes t) list) i.answer;
      bytes = i.bytes ∙ ap (λ (a : Result (Counts × ℕ × ℕ) (Refusal Reason)). bytes_left a (salvage_of (read_lenient t)) out) i.answer;
    }
