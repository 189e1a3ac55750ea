use Rattle.board_groups.proofs.Beside.{board-on}
use Rattle.board_take.proofs.Short.{short-visited}
use Rattle.board_take.proofs.visit_short.Goals as goal

pub right-requires : goal.right-requires
right-requires c = let a = c.args in (board-on a.columns a.rows a.p c.requires.2).place

pub down-requires : goal.down-requires
down-requires c = let a = c.args in (board-on a.columns a.rows a.p c.requires.2).place

pub returns : goal.returns
returns c = let a = c.args in
    short-visited a.columns a.rows a.stones.now a.colour a.p c.right.result c.left.result c.down.result c.up.result
    (board-on a.columns a.rows a.p c.requires.2) c.right.ensures c.left.ensures c.down.ensures c.up.ensures
    c.push_short-a.ensures c.push_short-b.ensures c.push_short-c.ensures c.push_short.ensures
