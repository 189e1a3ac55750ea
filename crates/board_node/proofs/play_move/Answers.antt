use Rattle.board_node.proofs.Turning.{turn-none, turn-same, play-off, play-done, playable-made}
use Rattle.lists.proofs.Prelude.{◌+◌, ◌*◌, sym, ◌∙◌}
use Rattle.board_node.proofs.Moves.{move-pass, move-plays}
use Rattle.board_node.proofs.Turning.{turn-none, play-off, play-done, playable-made}
use Rattle.lists.proofs.Prelude.{◌+◌, ◌*◌, sym, ◌∙◌}
use Rattle.board_node.proofs.play_move.Goals as goal

pub returns-then-columns-rows : goal.returns-then-columns-rows
returns-then-columns-rows c = let a = c.args in
    λ m. turn-same a.columns a.rows (move-pass a.columns a.rows a.colour a.x a.y c.if-columns-rows.true) (turn-none a.columns a.rows m a.stones.now a.state)

pub returns-then-not-on_board : goal.returns-then-not-on_board
returns-then-not-on_board c = let a = c.args in
    λ m. turn-same a.columns a.rows (move-plays a.columns a.rows a.colour a.x a.y c.if-columns-rows.false) (play-off a.columns a.rows a.colour (52 * a.x + a.y) m a.stones.now a.state _ _ (sym c.on_board.ensures ∙ c.if-not-on_board.true))

pub returns : goal.returns
returns c = let a = c.args in
    λ m. turn-same a.columns a.rows (move-plays a.columns a.rows a.colour a.x a.y c.if-columns-rows.false) (play-done a.columns a.rows a.colour (52 * a.x + a.y) m a.stones.now a.state _ _ (sym c.on_board.ensures ∙ c.if-not-on_board.false) (c.play_act-then.ensures.act (playable-made a.columns a.rows a.colour (52 * a.x + a.y) c.requires (sym c.on_board.ensures ∙ c.if-not-on_board.false))))
