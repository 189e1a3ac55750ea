use Rattle.lists.proofs.Prelude.{◌∙◌}
use Rattle.ff4_index.proofs.Cells.{cells, entries}
use Rattle.ff4_index.proofs.entry_at.Goals as goal

pub returns : goal.returns
unfolding cells
returns c = c.decode.ensures ∙ entries c.args.place c.requires
