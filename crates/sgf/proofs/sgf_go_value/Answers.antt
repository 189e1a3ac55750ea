use Rattle.c_answers.specs.Structs.{go_in_c}
use Rattle.sgf.specs.AskInC.{go_answer_in_c}
use Rattle.lists.proofs.Prelude.{ap, ◌∙◌}
use Rattle.sgf.proofs.sgf_go_value.Goals as goal

pub returns : goal.returns
returns c = c.go_in_c.ensures ∙ ap (λ n. go_in_c n c.go_value-answer.result.go) c.refusal_number.ensures ∙ ap go_answer_in_c c.go_value-answer.ensures
