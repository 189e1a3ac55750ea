use Rattle.c_simple.specs.InC.{simple_answer_in_c}
use Rattle.lists.proofs.Prelude.{ap, ◌∙◌}
use Rattle.sgf.proofs.index.sgf_simple_value.Goals as goal

pub returns : goal.returns
returns c = c.simple_answer_in_c.ensures ∙ ap simple_answer_in_c c.simple_value.ensures
