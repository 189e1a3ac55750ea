use Rattle.lists.proofs.Prelude.{ℕ, sym, ap, ◌∙◌}
use Rattle.c_simple.specs.declared.SgfSimple.{SgfSimple}
use Rattle.c_simple.specs.InC.{simple_answer_in_c}
use Rattle.c_simple.proofs.simple_answer_in_c.Goals as goal

abbrev refused : ℕ → SgfSimple
refused n = record { number = n; kind = 0; negative = 0; reserved = 0; size = 0 }

pub returns-in-Ok : goal.returns-in-Ok
returns-in-Ok c = c.simple_in_c.ensures ∙ ap simple_answer_in_c (sym c.in-Ok.is)

pub returns-in-Err : goal.returns-in-Err
returns-in-Err c = ap (λ (n : ℕ). refused n) c.from.ensures ∙ ap simple_answer_in_c (sym c.in-Err.is)
