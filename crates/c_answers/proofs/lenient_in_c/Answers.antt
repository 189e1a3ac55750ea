use Rattle.lists.proofs.Prelude.{ℕ, ◌≡◌, sym, ap, ◌∙◌}
use Rattle.tables.specs.Lenient.{as_reading}
use Rattle.c_answers.specs.Structs.{reading_in_c}
use Rattle.c_answers.specs.declared.SgfReading.{SgfReading}
use Rattle.c_answers.proofs.lenient_in_c.Goals as goal
use Rattle.std.specs.Prelude.{Result, Err}
use Rattle.tables.specs.declared.Counts.{Counts}
use Rattle.tables.specs.declared.LenientRefusal.{LenientRefusal}

of-case : (i : ℕ) {l k : Result Counts LenientRefusal} {r : SgfReading} → l ≡ k → r ≡ reading_in_c i (as_reading k) → r ≡ reading_in_c i (as_reading l)
of-case i e h = h ∙ ap (λ (z : Result Counts LenientRefusal). reading_in_c i (as_reading z)) (sym e)

pub returns-in-Ok : goal.returns-in-Ok
returns-in-Ok c = of-case c.args.ignored c.in-Ok.is c.reading_in_c.ensures

pub returns-in-TextTooLong : goal.returns-in-TextTooLong
returns-in-TextTooLong c = of-case c.args.ignored (c.in-Err.is ∙ ap (λ (z : LenientRefusal). Err z) c.in-TextTooLong.is) c.reading_in_c-in-TextTooLong.ensures

pub returns-in-NotUtf8 : goal.returns-in-NotUtf8
returns-in-NotUtf8 c = of-case c.args.ignored (c.in-Err.is ∙ ap (λ (z : LenientRefusal). Err z) c.in-NotUtf8.is) c.reading_in_c-in-NotUtf8.ensures

pub returns-in-TooDeep : goal.returns-in-TooDeep
returns-in-TooDeep c = of-case c.args.ignored (c.in-Err.is ∙ ap (λ (z : LenientRefusal). Err z) c.in-TooDeep.is) c.reading_in_c-in-TooDeep.ensures

pub returns-in-NoRoom : goal.returns-in-NoRoom
returns-in-NoRoom c = of-case c.args.ignored (c.in-Err.is ∙ ap (λ (z : LenientRefusal). Err z) c.in-NoRoom.is) c.reading_in_c-in-NoRoom.ensures
