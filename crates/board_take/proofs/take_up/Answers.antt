use Rattle.lists.proofs.Prelude.{◌-◌, sym, ◌∙◌}
use Rattle.board_groups.proofs.Beside.{board-on}
use Rattle.board_take.specs.LocalsSides.{up_of}
use Rattle.board_take.proofs.Spots.{up-far, up-sided, sided-takes, unsided-takes}
use Rattle.board_take.proofs.take_up.Goals as goal

pub up_is-requires : goal.up_is-requires
up_is-requires c = let a = c.args in ((board-on a.columns a.rows a.p c.requires.1).place, c.requires.2.row)

pub overflow_sub-p : goal.overflow_sub-p
overflow_sub-p c = let a = c.args in (up-far a.columns a.rows a.stones.now a.colour a.p a.x a.y c.requires.1 c.requires.2 (sym c.up_is.ensures ∙ c.if-up_is.true)).0

pub overflow_sub-y : goal.overflow_sub-y
overflow_sub-y c = let a = c.args in (up-far a.columns a.rows a.stones.now a.colour a.p a.x a.y c.requires.1 c.requires.2 (sym c.up_is.ensures ∙ c.if-up_is.true)).1

pub take_stone-requires : goal.take_stone-requires
take_stone-requires c = let a = c.args in let s = up-sided a.columns a.rows a.stones.now a.colour a.p a.x a.y c.requires.1 c.requires.2 (sym c.up_is.ensures ∙ c.if-up_is.true) in (c.requires.0, s.stone, s.spot)

pub returns-then-up_is : goal.returns-then-up_is
returns-then-up_is c = let a = c.args in sided-takes a.columns a.rows a.colour (up_of a.p) (a.p - 1) a.x (a.y - 1) a.stones.now _ _ (up-sided a.columns a.rows a.stones.now a.colour a.p a.x a.y c.requires.1 c.requires.2 (sym c.up_is.ensures ∙ c.if-up_is.true)) c.take_stone.ensures

pub returns : goal.returns
returns c = let a = c.args in unsided-takes a.columns a.rows a.colour (up_of a.p) a.stones.now (sym c.up_is.ensures ∙ c.if-up_is.false)
