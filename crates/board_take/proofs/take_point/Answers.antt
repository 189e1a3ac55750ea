use Rattle.board_groups.proofs.Beside.{board-on}
use Rattle.board_take.proofs.Taking.{takes-nothing}
use Rattle.board_take.proofs.take_point.Goals as goal

pub bounds-stones-p : goal.bounds-stones-p
bounds-stones-p c = let a = c.args in (board-on a.columns a.rows a.p c.requires.1).place

pub returns-then-stones-p : goal.returns-then-stones-p
returns-then-stones-p c = let a = c.args in takes-nothing a.columns a.rows a.colour a.p a.stones.now (λ s. absurd (c.if-stones-p.true s.is))

pub take_stone-requires : goal.take_stone-requires
take_stone-requires c = let p = c.requires in (p.0, record { on = p.1; is = c.if-stones-p.false }, p.2)

pub returns : goal.returns
returns c = c.take_stone.ensures.0
