use Rattle.board_groups.proofs.Beside.{board-on}
use Rattle.board_take.proofs.Listing.{few-visited}
use Rattle.board_take.proofs.visit_few.Goals as goal

pub right-requires : goal.right-requires
right-requires c = let a = c.args in (board-on a.columns a.rows a.p c.requires.2).place

pub push_few-b-requires : goal.push_few-b-requires
push_few-b-requires c = (c.push_few-a.ensures.grew.long, c.push_few-a.ensures.grew.most)

pub down-requires : goal.down-requires
down-requires c = let a = c.args in (board-on a.columns a.rows a.p c.requires.2).place

pub push_few-c-requires : goal.push_few-c-requires
push_few-c-requires c = (c.push_few-b.ensures.grew.long, c.push_few-b.ensures.grew.most)

pub push_few-requires : goal.push_few-requires
push_few-requires c = (c.push_few-c.ensures.grew.long, c.push_few-c.ensures.grew.most)

pub returns : goal.returns
returns c = let a = c.args in
    few-visited a.columns a.rows a.stones.now a.colour a.p c.right.result c.left.result c.down.result c.up.result (board-on a.columns a.rows a.p c.requires.2) c.right.ensures c.left.ensures c.down.ensures c.up.ensures c.push_few-a.ensures c.push_few-b.ensures c.push_few-c.ensures c.push_few.ensures
