use Rattle.lists.proofs.Prelude.{ℕ, sym, ap, ◌∙◌}
use Rattle.c_answers.specs.Structs.{no_counts}
use Rattle.c_feed.specs.Parts.{applied_in_c}
use Rattle.c_feed.proofs.applied_in_c.Goals as goal

pub returns-in-Ok : goal.returns-in-Ok
returns-in-Ok c = ap (applied_in_c c.args.c) (sym c.in-Ok.is)

pub returns-in-Err : goal.returns-in-Err
returns-in-Err c = ap (λ (n : ℕ). record { number = n; reserved = 0; place = c.in-Err.refused.place; used = 0; counts = no_counts }) c.from.ensures
    ∙ ap (applied_in_c c.args.c) (sym c.in-Err.is)
