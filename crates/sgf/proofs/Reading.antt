-- A reading shown as numbers. Assumes nothing.
use Rattle.lists.proofs.Prelude.{ℕ, ◌≡◌, ap, ◌∙◌}
use Rattle.tables.specs.Lenient.{as_reading}
use Rattle.parser.specs.Read.{Answer}
use Rattle.reader.specs.Lent.{Lent, ReadIs, LenientIs}
use Rattle.c_answers.specs.Structs.{reading_in_c}
use Rattle.sgf.specs.ReadInC.{ReadInC}
use Rattle.c_answers.specs.declared.SgfReading.{SgfReading}
use Rattle.std.specs.Prelude.{Result}
use Rattle.tables.specs.declared.Counts.{Counts}
use Rattle.tables.specs.declared.LenientRefusal.{LenientRefusal}
use Rattle.tables.specs.declared.Reason.{Reason}
use Rattle.tables.specs.declared.Refusal.{Refusal}

pub read-shown : {a : Answer} {before after : Lent} {r : Result Counts (Refusal Reason)} {s : SgfReading} {ignored : ℕ} → ReadIs a before after r
    → s ≡ reading_in_c ignored r → ReadInC ignored a before after s
read-shown {ignored = ignored} i s = record { is = s ∙ ap (reading_in_c ignored) i.answer; tables = i.tables }

pub lenient-shown : {a : Answer} {before after : Lent} {r : Result Counts LenientRefusal} {s : SgfReading} {ignored : ℕ} → LenientIs a before after r
    → s ≡ reading_in_c ignored (as_reading r) → ReadInC ignored a before after s
lenient-shown {ignored = ignored} i s = record { is = s ∙ ap (reading_in_c ignored) i.answer; tables = i.tables }
