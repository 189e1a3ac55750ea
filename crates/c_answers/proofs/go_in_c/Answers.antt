use Rattle.c_answers.specs.declared.Figures.{Figures}
use Rattle.lists.proofs.Prelude.{ap}
use Rattle.c_answers.proofs.go_in_c.Goals as goal

pub returns : goal.returns
returns c = let a = c.args in ap (λ (f : Figures). record { number = a.number; kind = f.kind; x = f.x; y = f.y; handicap = f.handicap; marks = a.go.marks }) c.figures_of-f.ensures
