use Rattle.lists.proofs.Prelude.{eqb-true, arith}
use Rattle.board_node.proofs.Idle.{idle-letter}
use Rattle.board_node.proofs.idle_letter.Goals as goal

pub returns : goal.returns
returns c = λ e. idle-letter _ (omega (arith, eqb-true c.letter_colour.result 0 e, c.letter_colour.ensures))
