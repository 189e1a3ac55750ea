use Rattle.fit_nodes.proofs.Conjoined.{rows-root, rows-parent, rows-depth, rows_all}
use Rattle.fit_nodes.proofs.Roots.{root-first, root-other, root_over, root-wrong, root-right, root-end}
use Rattle.tables.proofs.Each.{each_none, each_more}
use Rattle.tables.proofs.Cases.{passed, refused}
use Rattle.lists.proofs.Prelude.{ℕ, ◌+◌, sym, ap, ◌∙◌, arith, rules}
use Rattle.fit_nodes.proofs.Roots.{rest}
use Rattle.fit_nodes.proofs.rows_right.Goals as goal
use Rattle.fit_nodes.proofs.rows_right.Goals.{then-nodes-k+else-r-m+else-wide-k, else-nodes-k}

pub loop-k-init : goal.loop-k-init
loop-k-init c = (search rules, root-first c.args.trees.now c.args.nodes.now c.args.m c.args.n, each_none _, each_none _)

pub returns-then-not-parent_right : goal.returns-then-not-parent_right
returns-then-not-parent_right c = rows-parent c.args.m c.args.n c.args.trees.now c.args.nodes.now _ c.loop-k-test.true (refused c.parent_right.ensures c.if-not-parent_right.true-raw)

pub depth_right-requires : goal.depth_right-requires
depth_right-requires c = (omega (arith, c.loop-k-test.true, c.requires.1), passed c.parent_right.ensures c.if-not-parent_right.false-raw)

pub returns-then-not-depth_right : goal.returns-then-not-depth_right
returns-then-not-depth_right c = rows-depth c.args.m c.args.n c.args.trees.now c.args.nodes.now _ c.loop-k-test.true (refused c.depth_right.ensures c.if-not-depth_right.true-raw)

pub returns-then-r-m : goal.returns-then-r-m
returns-then-r-m c = rows-root c.args.m c.args.n c.args.trees.now c.args.nodes.now (sym c.loop-k.invariant.1 ∙ root_over c.args.trees.now c.args.nodes.now _ _ _ _ c.loop-k-test.true c.if-nodes-k.true c.if-r-m.true)

pub returns-then-wide-k : goal.returns-then-wide-k
returns-then-wide-k c = rows-root c.args.m c.args.n c.args.trees.now c.args.nodes.now (sym c.loop-k.invariant.1 ∙ root-wrong c.args.trees.now c.args.nodes.now c.args.m _ c.loop-k.r _ c.loop-k-test.true c.if-nodes-k.true (omega arith) (λ z. c.if-wide-k.true (c.wide.ensures ∙ z)))

pub loop-k-preserved : goal.loop-k-preserved
loop-k-preserved c = let a = c.args in
    let l = c.loop-k in
    let p = each_more _ _ l.invariant.2 (passed c.parent_right.ensures c.if-not-parent_right.false-raw) in
    let d = each_more _ _ l.invariant.3 (passed c.depth_right.ensures c.if-not-depth_right.false-raw) in
    elim c.if-nodes-k.branch [
      | then-nodes-k+else-r-m+else-wide-k w ↦ (
        omega arith,
        ap (λ (z : ℕ). rest a.trees.now a.nodes.now a.m a.n z (l.k + 1)) w.r-is
            ∙ root-right a.trees.now a.nodes.now a.m _ l.r _ c.loop-k-test.true w.if-nodes-k.true (omega arith) (sym w.wide.ensures ∙ w.if-wide-k.false)
            ∙ l.invariant.1,
        p,
        d,
      )
      | else-nodes-k w ↦ (
        omega arith,
        ap (λ (z : ℕ). rest a.trees.now a.nodes.now a.m a.n z (l.k + 1)) w.r-is
            ∙ root-other a.trees.now a.nodes.now a.m _ l.r _ c.loop-k-test.true w.if-nodes-k.false ∙ l.invariant.1,
        p,
        d,
      )
    ]

pub returns : goal.returns
returns c = rows_all c.args.m c.args.n c.args.trees.now c.args.nodes.now (root-end c.args.trees.now c.args.nodes.now _ _ _ _ c.loop-k.invariant.0 c.loop-k-test.false ∙ c.loop-k.invariant.1) _ (omega arith) c.loop-k-test.false c.loop-k.invariant.2 c.loop-k.invariant.3
