use Rattle.lists.proofs.Prelude.{sym, ap, ◌∙◌}
use Rattle.c_why.specs.WhyInC.{why_in_c}
use Rattle.c_why.specs.declared.Shown.{Shown}
use Rattle.c_why.proofs.why_in_c.Goals as goal

pub returns-in-Ok : goal.returns-in-Ok
returns-in-Ok c = ap why_in_c (sym c.in-Ok.is)

pub returns-in-Err : goal.returns-in-Err
returns-in-Err c = ap (λ (s : Shown). record { number = s.number; fact = s.fact; place = c.in-Err.refused.place; detail = s.detail; counts = record { trees = 0; nodes = 0; properties = 0; values = 0 } }) c.fact_in_c-x.ensures ∙ ap why_in_c (sym c.in-Err.is)
