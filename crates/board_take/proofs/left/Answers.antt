use Rattle.lists.proofs.Prelude.{le-leb, lt-leb}
use Rattle.board_take.specs.LocalsSides.{left_of}
use Rattle.board_take.proofs.left.Goals as goal

pub returns-then-p-ge52 : goal.returns-then-p-ge52
unfolding left_of
returns-then-p-ge52 c = rw (le-leb 52 c.args.p c.if-p-ge52.true)

pub returns : goal.returns
unfolding left_of
returns c = rw (lt-leb 52 c.args.p c.if-p-ge52.false)
