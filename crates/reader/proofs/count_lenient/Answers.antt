use Rattle.lists.proofs.Prelude.{sym, ◌∙◌, subst}
use Rattle.reader.specs.LocalsMild.{Mild}
use Rattle.reader.proofs.Theorems.{count-mild}
use Rattle.reader.proofs.count_lenient.Goals as goal

pub mild-requires : goal.mild-requires
mild-requires c = subst Mild (sym c.count.ensures) (count-mild c.args.text.now)

pub returns : goal.returns
returns c = c.mild.ensures ∙ c.count.ensures
