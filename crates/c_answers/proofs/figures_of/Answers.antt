use Rattle.c_answers.specs.Structs.{figures_in_c}
use Rattle.lists.proofs.Prelude.{sym, ap}
use Rattle.c_answers.proofs.figures_of.Goals as goal

pub returns-in-Other : goal.returns-in-Other
returns-in-Other c = ap figures_in_c (sym c.in-Other.is)

pub returns-in-Invalid : goal.returns-in-Invalid
returns-in-Invalid c = ap figures_in_c (sym c.in-Invalid.is)

pub returns-in-Pass : goal.returns-in-Pass
returns-in-Pass c = ap figures_in_c (sym c.in-Pass.is)

pub returns-in-Move : goal.returns-in-Move
returns-in-Move c = ap figures_in_c (sym c.in-Move.is)

pub returns-in-Handicap : goal.returns-in-Handicap
returns-in-Handicap c = ap figures_in_c (sym c.in-Handicap.is)

pub returns-in-Points : goal.returns-in-Points
returns-in-Points c = ap figures_in_c (sym c.in-Points.is)
