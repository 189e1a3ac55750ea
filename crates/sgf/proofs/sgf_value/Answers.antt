use Rattle.c_answers.specs.Structs.{span_in_c}
use Rattle.lists.proofs.Prelude.{ap, ◌∙◌}
use Rattle.sgf.proofs.sgf_value.Goals as goal

pub returns : goal.returns
returns c = c.span_in_c.ensures ∙ ap span_in_c c.access.ensures
