use Rattle.lists.proofs.Prelude.{arith}
use Rattle.board_groups.proofs.Beside.{board-on}
use Rattle.board_take.proofs.Taking.{takes-nothing, free-lives}
use Rattle.board_take.proofs.take_side.Goals as goal

pub returns-then-q-ge2704 : goal.returns-then-q-ge2704
returns-then-q-ge2704 c = let a = c.args in (takes-nothing a.columns a.rows a.colour a.q a.stones.now (λ s. absurd (omega (arith, c.if-q-ge2704.true, (board-on a.columns a.rows a.q s.on).place))), omega arith)

pub returns-then-stones-q : goal.returns-then-stones-q
returns-then-stones-q c = let a = c.args in (takes-nothing a.columns a.rows a.colour a.q a.stones.now (λ s. absurd (c.if-stones-q.true s.is)), omega arith)

pub free-requires : goal.free-requires
free-requires c = c.requires.1 c.if-q-ge2704.false

pub returns-then-free : goal.returns-then-free
returns-then-free c = let a = c.args in (takes-nothing a.columns a.rows a.colour a.q a.stones.now (free-lives a.columns a.rows a.colour a.q a.stones.now (c.free.ensures.yes-free c.if-free.true)), omega arith)

pub take_short-requires : goal.take_short-requires
take_short-requires c = (c.requires.0, record { on = c.requires.1 c.if-q-ge2704.false; is = c.if-stones-q.false })

pub returns : goal.returns
returns c = c.take_short.ensures
