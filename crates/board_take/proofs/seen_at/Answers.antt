use Rattle.lists.proofs.Prelude.{arith}
use Rattle.board_groups.proofs.Beside.{board-on}
use Rattle.board_take.proofs.Settling.{settled-empty, settled_up, settled-left, settled-down, settled-right}
use Rattle.board_take.proofs.seen_at.Goals as goal

pub bounds-stones-p : goal.bounds-stones-p
bounds-stones-p c = let a = c.args in let l = (board-on a.columns a.rows a.p c.requires.0).place in omega arith

pub returns-then-colour-eq0 : goal.returns-then-colour-eq0
returns-then-colour-eq0 c = λ e. let a = c.args in settled-empty a.columns a.rows a.stones.now a.p c.requires.1 c.if-colour-eq0.true

pub returns-then-held_at : goal.returns-then-held_at
returns-then-held_at c = λ e. let a = c.args in settled_up a.columns a.rows a.stones.now a.p c.requires.1 (board-on a.columns a.rows a.p c.requires.0) c.if-colour-eq0.false c.up.result c.if-held_at.true c.up.ensures c.held_at.ensures

pub returns-then-held_at-2 : goal.returns-then-held_at-2
returns-then-held_at-2 c = λ e. let a = c.args in settled-left a.columns a.rows a.stones.now a.p c.requires.1 (board-on a.columns a.rows a.p c.requires.0) c.if-colour-eq0.false c.left.result c.if-held_at-2.true c.left.ensures c.held_at-2.ensures

pub down-requires : goal.down-requires
down-requires c = let a = c.args in (board-on a.columns a.rows a.p c.requires.0).place

pub returns-then-empty_at : goal.returns-then-empty_at
returns-then-empty_at c = λ e. let a = c.args in settled-down a.columns a.rows a.stones.now a.p c.requires.1 (board-on a.columns a.rows a.p c.requires.0) c.if-colour-eq0.false c.down.result c.if-empty_at.true c.down.ensures c.empty_at.ensures

pub right-requires : goal.right-requires
right-requires c = let a = c.args in (board-on a.columns a.rows a.p c.requires.0).place

pub returns : goal.returns
returns c = λ e. let a = c.args in settled-right a.columns a.rows a.stones.now a.p c.requires.1 (board-on a.columns a.rows a.p c.requires.0) c.if-colour-eq0.false c.right.result e c.right.ensures c.empty_at-2.ensures
