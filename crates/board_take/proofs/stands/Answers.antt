use Rattle.lists.proofs.Prelude.{◌∙◌, arith, sym}
use Rattle.board_groups.proofs.Beside.{board-on}
use Rattle.board_take.proofs.stands.Goals as goal

pub bounds-stones-p : goal.bounds-stones-p
bounds-stones-p c = let a = c.args in
    let l = (board-on a.columns a.rows a.p (sym c.on_board.ensures ∙ c.if-on_board.true)).place in
    omega arith
