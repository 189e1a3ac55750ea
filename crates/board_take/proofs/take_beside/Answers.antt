use Rattle.lists.proofs.Prelude.{ℕ, subst}
use Rattle.lists.proofs.Prelude.{◌∙◌, arith, not-false, not-true, refl, sym, true≢false}
use Rattle.board_groups.proofs.Beside.{board-on}
use Rattle.board_take.proofs.Besides.{beside_none, beside-took}
use Rattle.board_take.proofs.Sides.{Side, right_side, left-side, down-side, up-side}
use Rattle.board_take.proofs.take_beside.Goals as goal

pub returns-then-colour-eq0 : goal.returns-then-colour-eq0
returns-then-colour-eq0 c = record { none = λ e. (refl, refl); some = λ f. absurd (f c.if-colour-eq0.true) }

pub returns-then-not-on_board : goal.returns-then-not-on_board
returns-then-not-on_board c = let a = c.args in
    record {
      none = λ e. absurd (c.if-colour-eq0.false e);
      some = λ f. beside_none a.columns a.rows a.colour a.p a.stones.now (λ e. true≢false (sym e ∙ (sym c.on_board.ensures ∙ not-true c.on_board.result c.if-not-on_board.true-raw)));
    }

pub right-requires : goal.right-requires
right-requires c = let a = c.args in (board-on a.columns a.rows a.p (sym c.on_board.ensures ∙ not-false c.on_board.result c.if-not-on_board.false-raw)).place

pub take_side-a-requires : goal.take_side-a-requires
take_side-a-requires c = let a = c.args in let o = board-on a.columns a.rows a.p (sym c.on_board.ensures ∙ not-false c.on_board.result c.if-not-on_board.false-raw) in (c.if-colour-eq0.false, (subst (λ (z : ℕ). Side a.columns a.rows a.p z) (sym c.right.ensures) (right_side a.columns a.rows a.p o)).on)

pub take_side-b-requires : goal.take_side-b-requires
take_side-b-requires c = let a = c.args in let o = board-on a.columns a.rows a.p (sym c.on_board.ensures ∙ not-false c.on_board.result c.if-not-on_board.false-raw) in (c.if-colour-eq0.false, (subst (λ (z : ℕ). Side a.columns a.rows a.p z) (sym c.left.ensures) (left-side a.columns a.rows a.p o)).on)

pub down-requires : goal.down-requires
down-requires c = let a = c.args in (board-on a.columns a.rows a.p (sym c.on_board.ensures ∙ not-false c.on_board.result c.if-not-on_board.false-raw)).place

pub take_side-c-requires : goal.take_side-c-requires
take_side-c-requires c = let a = c.args in let o = board-on a.columns a.rows a.p (sym c.on_board.ensures ∙ not-false c.on_board.result c.if-not-on_board.false-raw) in (c.if-colour-eq0.false, (subst (λ (z : ℕ). Side a.columns a.rows a.p z) (sym c.down.ensures) (down-side a.columns a.rows a.p o)).on)

pub take_side-d-requires : goal.take_side-d-requires
take_side-d-requires c = let a = c.args in let o = board-on a.columns a.rows a.p (sym c.on_board.ensures ∙ not-false c.on_board.result c.if-not-on_board.false-raw) in (c.if-colour-eq0.false, (subst (λ (z : ℕ). Side a.columns a.rows a.p z) (sym c.up.ensures) (up-side a.columns a.rows a.p o)).on)

pub overflow_add-result : goal.overflow_add-result
overflow_add-result c = omega (arith, c.take_side-d.ensures.1, c.take_side-c.ensures.1, c.take_side-b.ensures.1, c.take_side-a.ensures.1)

pub overflow_add-result-2 : goal.overflow_add-result-2
overflow_add-result-2 c = omega (arith, c.take_side-d.ensures.1, c.take_side-c.ensures.1, c.take_side-b.ensures.1, c.take_side-a.ensures.1)

pub overflow_add-result-3 : goal.overflow_add-result-3
overflow_add-result-3 c = omega (arith, c.take_side-d.ensures.1, c.take_side-c.ensures.1, c.take_side-b.ensures.1, c.take_side-a.ensures.1)

pub returns : goal.returns
returns c = let a = c.args in
    record {
      none = λ e. absurd (c.if-colour-eq0.false e);
      some = λ f. beside-took a.columns a.rows a.colour a.p a.stones.now (board-on a.columns a.rows a.p (sym c.on_board.ensures ∙ not-false c.on_board.result c.if-not-on_board.false-raw))
          c.right.result c.left.result c.down.result c.up.result
          c.right.ensures c.left.ensures c.down.ensures c.up.ensures f
          c.take_side-a.ensures.0 c.take_side-b.ensures.0 c.take_side-c.ensures.0 c.take_side-d.ensures.0;
    }
