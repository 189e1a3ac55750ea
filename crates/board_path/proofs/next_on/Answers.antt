use Rattle.lists.proofs.Prelude.{ℕ, ◌/◌, ◌<◌, ◌≤◌, subst, length}
use Rattle.board_path.proofs.Links.{follows-back, follows-far, follows-out, follows-made, next-none, next-leaf, next-child}
use Rattle.board_path.specs.LocalsNext.{Along, stays, goes}
use Rattle.tables.specs.Columns.{node_stride}
use Rattle.lists.proofs.Prelude.{ℕ, ◌/◌, ◌<◌, subst, length}
use Rattle.board_path.proofs.next_on.Goals as goal

pub returns-then-rows-at : goal.returns-then-rows-at
returns-then-rows-at c = next-none c.args.nodes.now c.args.at c.args.k c.if-rows-at.true

pub returns-then-rows-first : goal.returns-then-rows-first
returns-then-rows-first c = let a = c.args in
    next-leaf a.nodes.now a.at a.k c.if-rows-at.false (subst (λ (z : ℕ). length a.nodes.now / node_stride ≤ z) c.wide-first.ensures c.if-rows-first.true)

pub loop-c-init : goal.loop-c-init
loop-c-init c = let a = c.args in
    (λ r y. subst (λ (z : ℕ). Along a.nodes.now a.k z r) c.wide-first.ensures y, c.if-rows-first.false)

pub returns-then-next-c : goal.returns-then-next-c
returns-then-next-c c = let a = c.args in
    let l = c.loop-c in
    next-child a.nodes.now a.at a.k c.if-rows-at.false (subst (λ (z : ℕ). z < length a.nodes.now / node_stride) c.wide-first.ensures c.if-rows-first.false) (l.invariant.0 _ (stays (follows-back a.nodes.now a.k l.c (subst (λ (z : ℕ). z ≤ l.c) c.wide-next.ensures c.if-next-c.true))))

pub returns-then-k-next : goal.returns-then-k-next
returns-then-k-next c = let a = c.args in
    next-child a.nodes.now a.at a.k c.if-rows-at.false (subst (λ (z : ℕ). z < length a.nodes.now / node_stride) c.wide-first.ensures c.if-rows-first.false) (c.loop-c.invariant.0 _ (stays (follows-far a.nodes.now a.k c.loop-c.c (let e = c.wide-next.ensures in let l = c.if-next-c.false in subst (λ (z : ℕ). c.loop-c.c < z) e l) (subst (λ (z : ℕ). a.k < z) c.wide-next.ensures c.if-k-next.true))))

pub returns-then-rows-next : goal.returns-then-rows-next
returns-then-rows-next c = let a = c.args in
    next-child a.nodes.now a.at a.k c.if-rows-at.false (subst (λ (z : ℕ). z < length a.nodes.now / node_stride) c.wide-first.ensures c.if-rows-first.false) (c.loop-c.invariant.0 _ (stays (follows-out a.nodes.now a.k c.loop-c.c (let e = c.wide-next.ensures in let l = c.if-next-c.false in subst (λ (z : ℕ). c.loop-c.c < z) e l) (let e = c.wide-next.ensures in let l = c.if-k-next.false in subst (λ (z : ℕ). z ≤ a.k) e l) (subst (λ (z : ℕ). length a.nodes.now / node_stride ≤ z) c.wide-next.ensures c.if-rows-next.true))))

pub loop-c-preserved : goal.loop-c-preserved
loop-c-preserved c = let a = c.args in
    (λ r y. c.loop-c.invariant.0 r (goes (follows-made a.nodes.now a.k c.loop-c.c (let e = c.wide-next.ensures in let l = c.if-next-c.false in subst (λ (z : ℕ). c.loop-c.c < z) e l) (let e = c.wide-next.ensures in let l = c.if-k-next.false in subst (λ (z : ℕ). z ≤ a.k) e l) (subst (λ (z : ℕ). z < length a.nodes.now / node_stride) c.wide-next.ensures c.if-rows-next.false)) (subst (λ (z : ℕ). Along a.nodes.now a.k z r) c.wide-next.ensures y)), c.if-rows-next.false)
