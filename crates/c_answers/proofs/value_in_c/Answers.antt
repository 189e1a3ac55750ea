use Rattle.lists.proofs.Prelude.{sym, ap}
use Rattle.ask.specs.Ask.{display_for}
use Rattle.c_answers.specs.Structs.{display_in_c}
use Rattle.c_answers.proofs.value_in_c.Goals as goal
use Rattle.std.specs.Prelude.{Option, ℕ}

pub returns-in-Some : goal.returns-in-Some
returns-in-Some c = ap (λ (d : Option ℕ). display_in_c (display_for d)) (sym c.in-Some.is)

pub returns-in-None : goal.returns-in-None
returns-in-None c = ap (λ (d : Option ℕ). display_in_c (display_for d)) (sym c.in-None.is)
