use Rattle.lists.proofs.Prelude.{arith}
use Rattle.salvage_depth.proofs.Steps.{count-first, count_next, count-last}
use Rattle.salvage_depth.proofs.depth_of.Goals as goal

pub loop-k-init : goal.loop-k-init
loop-k-init c = (c.min-rows.ensures, omega arith, count-first c.args.nodes.now)

pub open_at-here-requires : goal.open_at-here-requires
open_at-here-requires c = let inv = c.loop-k.invariant in
    (omega (arith, inv.0, c.loop-k-test.true), inv.2.few, inv.2.open_is)

pub loop-k-preserved : goal.loop-k-preserved
loop-k-preserved c = let inv = c.loop-k.invariant in
    (inv.0, omega (arith, c.loop-k-test.true), count_next inv.2 c.open_at-here.ensures c.max-deepest.ensures)

pub returns : goal.returns
returns c = let inv = c.loop-k.invariant in
    count-last inv.2 (omega (arith, inv.0, inv.1, c.loop-k-test.false))
