use Rattle.lists.proofs.Prelude.{ℕ, sym, ap, ◌∙◌}
use Rattle.c_answers.specs.Structs.{no_counts, reading_in_c}
use Rattle.c_answers.proofs.reading_in_c.Goals as goal

pub returns-in-Ok : goal.returns-in-Ok
returns-in-Ok c = ap (reading_in_c c.args.ignored) (sym c.in-Ok.is)

pub returns-in-Err : goal.returns-in-Err
returns-in-Err c = ap (λ (n : ℕ). record { number = n; ignored = c.args.ignored; place = c.in-Err.refused.place; counts = no_counts }) c.from.ensures
    ∙ ap (reading_in_c c.args.ignored) (sym c.in-Err.is)
