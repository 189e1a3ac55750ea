use Rattle.board_take.specs.LocalsSides.{down_of}
use Rattle.board_take.proofs.down.Goals as goal

pub returns-then-p-rows : goal.returns-then-p-rows
unfolding down_of
returns-then-p-rows c = rw c.if-p-rows.true

pub returns : goal.returns
unfolding down_of
returns c = rw c.if-p-rows.false
