use Rattle.c_simple.specs.InC.{entry_in_c}
use Rattle.lists.proofs.Prelude.{ap, ◌∙◌}
use Rattle.sgf.proofs.index.sgf_entry.Goals as goal

pub returns : goal.returns
returns c = c.entry_in_c.ensures ∙ ap entry_in_c c.entry_of.ensures
