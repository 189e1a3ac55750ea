use Rattle.lists.proofs.Prelude.{◌∙◌, sym, true≢false}
use Rattle.board_groups.proofs.Beside.{board-on}
use Rattle.board_take.specs.LocalsSides.{right_of, left_of, down_of, up_of}
use Rattle.board_take.proofs.Empties.{side-free, none_free}
use Rattle.board_take.proofs.Sides.{right_side, left-side, down-side, up-side}
use Rattle.board_take.proofs.free_at.Goals as goal

pub right_is-requires : goal.right_is-requires
right_is-requires c = let a = c.args in ((board-on a.columns a.rows a.p c.requires.0).place, c.requires.1.column)

pub returns-then-right_is : goal.returns-then-right_is
returns-then-right_is c = let a = c.args in
    record {
      yes-free = λ e. side-free a.columns a.rows a.stones.now a.p (right_of a.columns a.p) (right_side a.columns a.rows a.p (board-on a.columns a.rows a.p c.requires.0)) (sym c.right_is.ensures ∙ c.if-right_is.true);
      no-free = λ e. absurd (true≢false e);
    }

pub left_is-requires : goal.left_is-requires
left_is-requires c = let a = c.args in (board-on a.columns a.rows a.p c.requires.0).place

pub returns-then-left_is : goal.returns-then-left_is
returns-then-left_is c = let a = c.args in
    record {
      yes-free = λ e. side-free a.columns a.rows a.stones.now a.p (left_of a.p) (left-side a.columns a.rows a.p (board-on a.columns a.rows a.p c.requires.0)) (sym c.left_is.ensures ∙ c.if-left_is.true);
      no-free = λ e. absurd (true≢false e);
    }

pub down_is-requires : goal.down_is-requires
down_is-requires c = let a = c.args in ((board-on a.columns a.rows a.p c.requires.0).place, c.requires.1.row)

pub returns-then-down_is : goal.returns-then-down_is
returns-then-down_is c = let a = c.args in
    record {
      yes-free = λ e. side-free a.columns a.rows a.stones.now a.p (down_of a.rows a.p) (down-side a.columns a.rows a.p (board-on a.columns a.rows a.p c.requires.0)) (sym c.down_is.ensures ∙ c.if-down_is.true);
      no-free = λ e. absurd (true≢false e);
    }

pub up_is-requires : goal.up_is-requires
up_is-requires c = let a = c.args in ((board-on a.columns a.rows a.p c.requires.0).place, c.requires.1.row)

pub returns : goal.returns
returns c = let a = c.args in
    record {
      yes-free = λ e. side-free a.columns a.rows a.stones.now a.p (up_of a.p) (up-side a.columns a.rows a.p (board-on a.columns a.rows a.p c.requires.0)) (sym c.up_is.ensures ∙ e);
      no-free = λ e. none_free a.columns a.rows a.stones.now a.p
          (sym c.right_is.ensures ∙ c.if-right_is.false)
          (sym c.left_is.ensures ∙ c.if-left_is.false)
          (sym c.down_is.ensures ∙ c.if-down_is.false)
          (sym c.up_is.ensures ∙ e);
    }
