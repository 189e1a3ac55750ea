use Rattle.board_take.proofs.goes.Goals as goal

pub returns : goal.returns
returns c = rw c.stands.ensures
