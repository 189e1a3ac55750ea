use Rattle.board_node.specs.Answer.{answer_of}
use Rattle.board_acts.specs.declared.BoardState.{BoardState}
use Rattle.lists.proofs.Prelude.{ap, replicate, true}
use Rattle.board_node.proofs.refuse.Goals as goal

pub returns : goal.returns
returns c = ap (λ (z : BoardState). answer_of true (replicate 2704 0) z) c.no_state.ensures
