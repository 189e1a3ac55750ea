use Rattle.lists.proofs.Prelude.{sym, ap, ◌∙◌}
use Rattle.reader.specs.LocalsKnown.{known_by}
use Rattle.reader.proofs.known_part.Goals as goal

pub returns-in-Some : goal.returns-in-Some
returns-in-Some c = ap (known_by c.args.first c.args.last) (sym c.in-Some.is ∙ c.take_census.ensures)

pub returns-in-None : goal.returns-in-None
returns-in-None c = ap (known_by c.args.first c.args.last) (sym c.in-None.is ∙ c.take_census.ensures)
