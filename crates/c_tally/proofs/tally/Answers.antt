use Rattle.lists.proofs.Prelude.{ap, ◌∙◌}
use Rattle.c_tally.specs.TallyInC.{tally_in_c}
use Rattle.c_tally.proofs.tally.Goals as goal

pub returns : goal.returns
returns c = c.in_c.ensures ∙ ap tally_in_c c.tally.ensures
