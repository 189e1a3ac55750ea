use Rattle.lists.proofs.Prelude.{◌+◌, sym, ◌∙◌, arith}
use Rattle.board_groups.proofs.Beside.{board-on}
use Rattle.board_take.specs.LocalsSides.{down_of}
use Rattle.board_take.proofs.Spots.{down-sided, sided-takes, unsided-takes}
use Rattle.board_take.proofs.take_down.Goals as goal

pub down_is-requires : goal.down_is-requires
down_is-requires c = let a = c.args in ((board-on a.columns a.rows a.p c.requires.1).place, c.requires.2.row)

pub overflow_add-p : goal.overflow_add-p
overflow_add-p c = let a = c.args in omega (arith, (board-on a.columns a.rows a.p c.requires.1).place)

pub take_stone-requires : goal.take_stone-requires
take_stone-requires c = let a = c.args in let s = down-sided a.columns a.rows a.stones.now a.colour a.p a.x a.y c.requires.1 c.requires.2 (sym c.down_is.ensures ∙ c.if-down_is.true) in (c.requires.0, s.stone, s.spot)

pub returns-then-down_is : goal.returns-then-down_is
returns-then-down_is c = let a = c.args in sided-takes a.columns a.rows a.colour (down_of a.rows a.p) (a.p + 1) a.x (a.y + 1) a.stones.now _ _ (down-sided a.columns a.rows a.stones.now a.colour a.p a.x a.y c.requires.1 c.requires.2 (sym c.down_is.ensures ∙ c.if-down_is.true)) c.take_stone.ensures

pub returns : goal.returns
returns c = let a = c.args in unsided-takes a.columns a.rows a.colour (down_of a.rows a.p) a.stones.now (sym c.down_is.ensures ∙ c.if-down_is.false)
