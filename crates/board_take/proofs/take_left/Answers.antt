use Rattle.lists.proofs.Prelude.{◌-◌, sym, ◌∙◌}
use Rattle.board_groups.proofs.Beside.{board-on}
use Rattle.board_take.specs.LocalsSides.{left_of}
use Rattle.board_take.proofs.Spots.{left_far, left-sided, sided-takes, unsided-takes}
use Rattle.board_take.proofs.take_left.Goals as goal

pub left_is-requires : goal.left_is-requires
left_is-requires c = let a = c.args in (board-on a.columns a.rows a.p c.requires.1).place

pub overflow_sub-p : goal.overflow_sub-p
overflow_sub-p c = let a = c.args in (left_far a.columns a.rows a.stones.now a.colour a.p a.x a.y c.requires.1 c.requires.2 (sym c.left_is.ensures ∙ c.if-left_is.true)).0

pub overflow_sub-x : goal.overflow_sub-x
overflow_sub-x c = let a = c.args in (left_far a.columns a.rows a.stones.now a.colour a.p a.x a.y c.requires.1 c.requires.2 (sym c.left_is.ensures ∙ c.if-left_is.true)).1

pub take_stone-requires : goal.take_stone-requires
take_stone-requires c = let a = c.args in let s = left-sided a.columns a.rows a.stones.now a.colour a.p a.x a.y c.requires.1 c.requires.2 (sym c.left_is.ensures ∙ c.if-left_is.true) in (c.requires.0, s.stone, s.spot)

pub returns-then-left_is : goal.returns-then-left_is
returns-then-left_is c = let a = c.args in sided-takes a.columns a.rows a.colour (left_of a.p) (a.p - 52) (a.x - 1) a.y a.stones.now _ _ (left-sided a.columns a.rows a.stones.now a.colour a.p a.x a.y c.requires.1 c.requires.2 (sym c.left_is.ensures ∙ c.if-left_is.true)) c.take_stone.ensures

pub returns : goal.returns
returns c = let a = c.args in unsided-takes a.columns a.rows a.colour (left_of a.p) a.stones.now (sym c.left_is.ensures ∙ c.if-left_is.false)
