use Rattle.lists.proofs.Prelude.{ℕ, sym, subst}
use Rattle.board_groups.proofs.Beside.{board-on}
use Rattle.board_take.proofs.Sides.{Side, right_side, left-side, down-side, up-side}
use Rattle.board_take.proofs.Listing.{via-lives}
use Rattle.board_take.proofs.lives_near.Goals as goal

pub right-requires : goal.right-requires
right-requires c = let a = c.args in (board-on a.columns a.rows a.p c.requires.on).place

pub free_via-requires : goal.free_via-requires
free_via-requires c = let a = c.args in let o = board-on a.columns a.rows a.p c.requires.on in (subst (λ (z : ℕ). Side a.columns a.rows a.p z) (sym c.right.ensures) (right_side a.columns a.rows a.p o)).on

pub returns-then-free_via : goal.returns-then-free_via
returns-then-free_via c = λ e. let a = c.args in via-lives a.columns a.rows a.stones.now a.colour a.p _ _ c.requires (right_side a.columns a.rows a.p (board-on a.columns a.rows a.p c.requires.on)) c.right.ensures (c.free_via.ensures c.if-free_via.true)

pub free_via-requires-2 : goal.free_via-requires-2
free_via-requires-2 c = let a = c.args in let o = board-on a.columns a.rows a.p c.requires.on in (subst (λ (z : ℕ). Side a.columns a.rows a.p z) (sym c.left.ensures) (left-side a.columns a.rows a.p o)).on

pub returns-then-free_via-2 : goal.returns-then-free_via-2
returns-then-free_via-2 c = λ e. let a = c.args in via-lives a.columns a.rows a.stones.now a.colour a.p _ _ c.requires (left-side a.columns a.rows a.p (board-on a.columns a.rows a.p c.requires.on)) c.left.ensures (c.free_via-2.ensures c.if-free_via-2.true)

pub down-requires : goal.down-requires
down-requires c = let a = c.args in (board-on a.columns a.rows a.p c.requires.on).place

pub free_via-requires-3 : goal.free_via-requires-3
free_via-requires-3 c = let a = c.args in let o = board-on a.columns a.rows a.p c.requires.on in (subst (λ (z : ℕ). Side a.columns a.rows a.p z) (sym c.down.ensures) (down-side a.columns a.rows a.p o)).on

pub returns-then-free_via-3 : goal.returns-then-free_via-3
returns-then-free_via-3 c = λ e. let a = c.args in via-lives a.columns a.rows a.stones.now a.colour a.p _ _ c.requires (down-side a.columns a.rows a.p (board-on a.columns a.rows a.p c.requires.on)) c.down.ensures (c.free_via-3.ensures c.if-free_via-3.true)

pub free_via-requires-4 : goal.free_via-requires-4
free_via-requires-4 c = let a = c.args in let o = board-on a.columns a.rows a.p c.requires.on in (subst (λ (z : ℕ). Side a.columns a.rows a.p z) (sym c.up.ensures) (up-side a.columns a.rows a.p o)).on

pub returns : goal.returns
returns c = λ e. let a = c.args in via-lives a.columns a.rows a.stones.now a.colour a.p _ _ c.requires (up-side a.columns a.rows a.p (board-on a.columns a.rows a.p c.requires.on)) c.up.ensures (c.free_via-4.ensures e)
