use Rattle.c_answers.specs.declared.Figures.{Figures}
use Rattle.lists.proofs.Prelude.{ap}
use Rattle.go.specs.Value.{no_marks}
use Rattle.c_answers.proofs.unmarked_in_c.Goals as goal

pub returns : goal.returns
returns c = ap (λ (f : Figures). record { number = 0; kind = f.kind; x = f.x; y = f.y; handicap = f.handicap; marks = no_marks }) c.figures_of-f.ensures
