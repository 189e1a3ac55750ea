use Rattle.lists.proofs.Prelude.{ℕ, sym, ap, ◌∙◌}
use Rattle.c_tally.specs.TallyInC.{tally_in_c}
use Rattle.c_tally.proofs.in_c.Goals as goal

pub returns-in-Some : goal.returns-in-Some
returns-in-Some c = ap tally_in_c (sym c.in-Some.is)

pub returns-in-None : goal.returns-in-None
returns-in-None c = ap (λ (n : ℕ). record { number = n; reserved = 0; trees = 0; nodes = 0; black = 0; white = 0; passes = 0 }) c.from.ensures
    ∙ ap tally_in_c (sym c.in-None.is)
