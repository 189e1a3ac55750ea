use Rattle.lists.proofs.Prelude.{ℕ, sym, ap, ◌∙◌}
use Rattle.c_answers.specs.Structs.{span_in_c}
use Rattle.c_answers.proofs.span_in_c.Goals as goal

pub returns-in-Ok : goal.returns-in-Ok
returns-in-Ok c = ap span_in_c (sym c.in-Ok.is)

pub returns-in-Err : goal.returns-in-Err
returns-in-Err c = ap (λ (n : ℕ). record { number = n; reserved = 0; from = 0; to = 0 }) c.from.ensures ∙ ap span_in_c (sym c.in-Err.is)
