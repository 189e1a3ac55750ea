use Rattle.lists.proofs.Prelude.{◌%◌, le-ltb, lt-ltb}
use Rattle.board_take.specs.LocalsSides.{up_of}
use Rattle.board_take.proofs.up.Goals as goal

pub returns-then-p-gt0 : goal.returns-then-p-gt0
unfolding up_of
returns-then-p-gt0 c = rw (lt-ltb 0 (c.args.p % 52) c.if-p-gt0.true)

pub returns : goal.returns
unfolding up_of
returns c = rw (le-ltb 0 (c.args.p % 52) c.if-p-gt0.false)
