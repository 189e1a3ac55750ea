use Rattle.board_groups.proofs.Beside.{board-on}
use Rattle.board_take.proofs.Visiting.{visited}
use Rattle.board_take.proofs.visit.Goals as goal

pub right-requires : goal.right-requires
right-requires c = let a = c.args in (board-on a.columns a.rows a.p c.requires.1).place

pub push-a-requires : goal.push-a-requires
push-a-requires c = c.requires.0

pub push-b-requires : goal.push-b-requires
push-b-requires c = c.push-a.ensures.held

pub down-requires : goal.down-requires
down-requires c = let a = c.args in (board-on a.columns a.rows a.p c.requires.1).place

pub push-c-requires : goal.push-c-requires
push-c-requires c = c.push-b.ensures.held

pub push-requires : goal.push-requires
push-requires c = c.push-c.ensures.held

pub returns : goal.returns
returns c = let a = c.args in
    visited a.columns a.rows a.stones.now a.colour a.p c.right.result c.left.result c.down.result c.up.result
    (board-on a.columns a.rows a.p c.requires.1) c.right.ensures c.left.ensures c.down.ensures c.up.ensures
    c.push-a.ensures c.push-b.ensures c.push-c.ensures c.push.ensures
