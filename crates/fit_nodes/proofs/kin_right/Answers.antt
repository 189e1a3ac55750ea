use Rattle.fit_nodes.proofs.Conjoined.{kin-none, kin-child, kin-sibling, kin-next, kin-all}
use Rattle.fit_nodes.proofs.Siblings.{Past, past_first, past_next, past-last, past_more, past_end}
use Rattle.fit_nodes.specs.Nodes.{child_right}
use Rattle.tables.specs.Each.{each}
use Rattle.tables.proofs.Each.{each_none}
use Rattle.tables.proofs.Cases.{passed, refused}
use Rattle.lists.proofs.Prelude.{ℕ, ◌-◌, ◌≤◌, ◌≡◌, true, subst, arith}
use Rattle.fit_nodes.proofs.kin_right.Goals as goal

pub returns-then-n-eq0 : goal.returns-then-n-eq0
returns-then-n-eq0 c = kin-none c.args.n c.args.nodes.now c.if-n-eq0.true

pub loop-k-init : goal.loop-k-init
loop-k-init c = (past_first c.requires.1 (omega arith), each_none _)

pub child_right-requires : goal.child_right-requires
child_right-requires c = (c.requires.0, c.requires.1, omega (arith, c.loop-k-test.true, c.loop-k.invariant.0.some))

pub returns-then-not-child_right : goal.returns-then-not-child_right
returns-then-not-child_right c =
    kin-child c.args.n c.args.nodes.now _ (omega (arith, c.loop-k-test.true, c.loop-k.invariant.0.some))
    (refused c.child_right.ensures c.if-not-child_right.true-raw)

pub climb-requires : goal.climb-requires
climb-requires c = (c.requires.0, past_next c.loop-k.invariant.0 c.loop-k-test.true)

pub returns-then-not-climb : goal.returns-then-not-climb
returns-then-not-climb c = kin-sibling c.args.n c.args.nodes.now (c.climb.ensures.wrong c.if-not-climb.true)

pub loop-k-preserved : goal.loop-k-preserved
loop-k-preserved c = let x = c.loop-k.invariant.0 in (
  past_more x c.loop-k-test.true c.climb.ensures c.if-not-climb.false,
  kin-next c.args.n c.args.nodes.now x.some c.loop-k.invariant.1 (passed c.child_right.ensures c.if-not-child_right.false-raw),
)

pub child_right-requires-2 : goal.child_right-requires-2
child_right-requires-2 c = (c.requires.0, c.requires.1, omega (arith, c.loop-k.invariant.0.some, c.loop-k.invariant.0.in-range))

pub returns-then-not-child_right-2 : goal.returns-then-not-child_right-2
returns-then-not-child_right-2 c =
    kin-child c.args.n c.args.nodes.now _ (omega (arith, c.loop-k.invariant.0.some, c.loop-k.invariant.0.in-range))
    (refused c.child_right-2.ensures c.if-not-child_right-2.true-raw)

pub climb-requires-2 : goal.climb-requires-2
climb-requires-2 c = let a = c.args in
    let x = c.loop-k.invariant.0 in
    let e : c.loop-k.k ≡ a.n = omega (arith, x.in-range, c.loop-k-test.false) in
    (c.requires.0, past-last (subst (λ (z : ℕ). Past a.nodes.now a.n z) e x) (omega arith))

pub returns : goal.returns
returns c = let a = c.args in
    let x = c.loop-k.invariant.0 in
    let e : c.loop-k.k ≡ a.n = omega (arith, x.in-range, c.loop-k-test.false) in
    let p = subst (λ (z : ℕ). Past a.nodes.now a.n z) e x in
    let q = subst (λ (z : ℕ). each (z - 1) (child_right a.nodes.now a.n) ≡ true) e c.loop-k.invariant.1 in
    let s : a.n ≤ a.n = omega arith in
    kin-all a.n a.nodes.now p.some q (passed c.child_right-2.ensures c.if-not-child_right-2.false-raw) s s (past_end p s _ c.climb-2.ensures)
