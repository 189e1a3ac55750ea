use Rattle.lists.proofs.Prelude.{◌+◌, sym, ◌∙◌, arith}
use Rattle.board_groups.proofs.Beside.{board-on}
use Rattle.board_take.specs.LocalsSides.{right_of}
use Rattle.board_take.proofs.Spots.{right-sided, sided-takes, unsided-takes}
use Rattle.board_take.proofs.take_right.Goals as goal

pub right_is-requires : goal.right_is-requires
right_is-requires c = let a = c.args in ((board-on a.columns a.rows a.p c.requires.1).place, c.requires.2.column)

pub overflow_add-p : goal.overflow_add-p
overflow_add-p c = let a = c.args in omega (arith, (board-on a.columns a.rows a.p c.requires.1).place)

pub take_stone-requires : goal.take_stone-requires
take_stone-requires c = let a = c.args in let s = right-sided a.columns a.rows a.stones.now a.colour a.p a.x a.y c.requires.1 c.requires.2 (sym c.right_is.ensures ∙ c.if-right_is.true) in (c.requires.0, s.stone, s.spot)

pub returns-then-right_is : goal.returns-then-right_is
returns-then-right_is c = let a = c.args in sided-takes a.columns a.rows a.colour (right_of a.columns a.p) (a.p + 52) (a.x + 1) a.y a.stones.now _ _ (right-sided a.columns a.rows a.stones.now a.colour a.p a.x a.y c.requires.1 c.requires.2 (sym c.right_is.ensures ∙ c.if-right_is.true)) c.take_stone.ensures

pub returns : goal.returns
returns c = let a = c.args in unsided-takes a.columns a.rows a.colour (right_of a.columns a.p) a.stones.now (sym c.right_is.ensures ∙ c.if-right_is.false)
