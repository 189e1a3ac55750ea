use Rattle.lists.proofs.Prelude.{ap, ◌∙◌}
use Rattle.c_answers.specs.Structs.{writing_in_c}
use Rattle.sgf.proofs.length.sgf_write_length.Goals as goal

pub returns : goal.returns
returns c = c.writing_in_c.ensures ∙ ap writing_in_c c.write_length.ensures
