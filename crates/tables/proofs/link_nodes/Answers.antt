use Rattle.lists.proofs.Prelude.{◌-◌, ◌<◌, length, arith}
use Rattle.tables.proofs.Cells.{under, whole-rows}
use Rattle.tables.proofs.Links.{linked-none, link-child, link-root}
use Rattle.tables.proofs.link_nodes.Goals as goal

pub loop-k-init : goal.loop-k-init
loop-k-init c = (omega arith, (omega arith, omega arith), linked-none _ _)

pub loop-k-preserved-then-parent-n : goal.loop-k-preserved-then-parent-n
loop-k-preserved-then-parent-n c = let p = c.loop-k.invariant in
    let low : c.loop-k.k - 1 < c.args.n = omega arith in
    (under low, p.1, link-child p.2 c.loop-k-test.true p.0 (whole-rows _ (length c.args.t.now) p.1.0) c.if-parent-n.true)

pub loop-k-preserved : goal.loop-k-preserved
loop-k-preserved c = let p = c.loop-k.invariant in
    let low : c.loop-k.k - 1 < c.args.n = omega arith in
    (under low, p.1, link-root p.2 c.loop-k-test.true p.0 (whole-rows _ (length c.args.t.now) p.1.0) c.if-parent-n.false)
