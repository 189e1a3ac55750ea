use Rattle.lists.proofs.Prelude.{ap, ◌∙◌}
use Rattle.c_answers.specs.Structs.{reading_in_c}
use Rattle.sgf.proofs.explain.sgf_count_strict.Goals as goal

pub returns : goal.returns
returns c = c.reading_in_c.ensures ∙ ap (reading_in_c 0) c.count_strict.ensures
