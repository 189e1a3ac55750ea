use Rattle.lists.proofs.Prelude.{refl}
use Rattle.board_groups.proofs.Beside.{board-on}
use Rattle.board_take.specs.LocalsSides.{right_of, left_of, down_of, up_of}
use Rattle.board_take.proofs.Besides.{beside-took}
use Rattle.board_take.proofs.take_sides.Goals as goal

pub returns : goal.returns
returns c = let a = c.args in
    beside-took a.columns a.rows a.colour a.p a.stones.now (board-on a.columns a.rows a.p c.requires.1)
    (right_of a.columns a.p) (left_of a.p) (down_of a.rows a.p) (up_of a.p) refl refl refl refl c.requires.0
    c.take_right-after.ensures.0 c.take_left-before.ensures.0 c.take_down-below.ensures.0 c.take_up-above.ensures.0
