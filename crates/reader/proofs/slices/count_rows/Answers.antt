use Rattle.lists.proofs.Prelude.{false≢true}
use Rattle.reader.proofs.slices.count_rows.Goals as goal

pub read_trees-requires : goal.read_trees-requires
read_trees-requires c = (c.requires, λ e. absurd (false≢true e))

pub returns : goal.returns
returns c = (_, _, c.read_trees.ensures)
