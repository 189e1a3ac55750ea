use Rattle.lists.proofs.Prelude.{arith}
use Rattle.board_take.proofs.Taking.{takes-nothing, free-lives}
use Rattle.board_take.proofs.take_stone.Goals as goal

pub returns-then-free_at : goal.returns-then-free_at
returns-then-free_at c = let a = c.args in (takes-nothing a.columns a.rows a.colour a.p a.stones.now (free-lives a.columns a.rows a.colour a.p a.stones.now (c.free_at.ensures.yes-free c.if-free_at.true)), omega arith)
