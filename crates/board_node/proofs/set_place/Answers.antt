use Rattle.board_node.proofs.Turning.{set-off, set_twice, set-done, settable-made}
use Rattle.board_groups.proofs.Beside.{board-on}
use Rattle.lists.proofs.Prelude.{sym, ◌∙◌}
use Rattle.board_node.proofs.set_place.Goals as goal

pub returns-then-not-on_board : goal.returns-then-not-on_board
returns-then-not-on_board c = let a = c.args in
    set-off a.columns a.rows a.colour a.p a.seen.now a.stones.now a.state _ _ (sym c.on_board.ensures ∙ c.if-not-on_board.true)

pub bounds-seen-p : goal.bounds-seen-p
bounds-seen-p c = let a = c.args in (board-on a.columns a.rows a.p (sym c.on_board.ensures ∙ c.if-not-on_board.false)).place

pub bounds-seen-p-2 : goal.bounds-seen-p-2
bounds-seen-p-2 c = let a = c.args in (board-on a.columns a.rows a.p (sym c.on_board.ensures ∙ c.if-not-on_board.false)).place

pub returns-then-seen-p : goal.returns-then-seen-p
returns-then-seen-p c = let a = c.args in
    set_twice a.columns a.rows a.colour a.p a.seen.now a.stones.now a.state _ _ (sym c.on_board.ensures ∙ c.if-not-on_board.false) c.if-seen-p.true

pub returns : goal.returns
returns c = let a = c.args in
    set-done a.columns a.rows a.colour a.p a.seen.now a.stones.now a.state _ _ (sym c.on_board.ensures ∙ c.if-not-on_board.false) c.if-seen-p.false (c.set_act-then.ensures.act (settable-made a.columns a.rows a.colour a.p c.requires (sym c.on_board.ensures ∙ c.if-not-on_board.false)))
