use Rattle.board_take.specs.LocalsSides.{right_of}
use Rattle.board_take.proofs.right.Goals as goal

pub returns-then-p-columns : goal.returns-then-p-columns
unfolding right_of
returns-then-p-columns c = rw c.if-p-columns.true

pub returns : goal.returns
unfolding right_of
returns c = rw c.if-p-columns.false
