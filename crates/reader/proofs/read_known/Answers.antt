use Rattle.lists.proofs.Prelude.{sym, ◌∙◌, subst}
use Rattle.reader.specs.Lent.{lent}
use Rattle.reader.specs.LocalsMild.{Mild}
use Rattle.reader.proofs.Theorems.{answer-mild}
use Rattle.reader.proofs.read_known.Goals as goal

pub mild-requires : goal.mild-requires
mild-requires c = subst Mild (sym c.read_by.ensures.answer) (answer-mild c.args.text.now (lent c.args.trees.now c.args.nodes.now c.args.properties.now c.args.values.now))

pub returns : goal.returns
returns c = record { answer = c.mild.ensures ∙ c.read_by.ensures.answer; tables = c.read_by.ensures.tables }
