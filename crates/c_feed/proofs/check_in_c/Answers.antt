use Rattle.lists.proofs.Prelude.{ℕ, sym, ap, ◌∙◌}
use Rattle.c_feed.specs.Parts.{check_in_c}
use Rattle.c_feed.proofs.check_in_c.Goals as goal

pub returns-in-Ok : goal.returns-in-Ok
returns-in-Ok c = ap check_in_c (sym c.in-Ok.is)

pub returns-in-Err : goal.returns-in-Err
returns-in-Err c = ap (λ (n : ℕ). record { number = n; reserved = 0; place = c.in-Err.refused.place }) c.from.ensures ∙ ap check_in_c (sym c.in-Err.is)
