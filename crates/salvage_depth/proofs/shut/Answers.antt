use Rattle.lists.proofs.Prelude.{arith, rules}
use Rattle.salvage_depth.proofs.Steps.{bracket-least, climb-first, climb-met, climb-last, climb-more}
use Rattle.salvage_depth.proofs.shut.Goals as goal

pub loop-j-init : goal.loop-j-init
loop-j-init c = let args = c.args in
    climb-first args.nodes.now args.k args.p

pub bracket-count-requires : goal.bracket-count-requires
bracket-count-requires c = omega (arith, c.loop-j.invariant.under, c.requires)

pub overflow_add-count : goal.overflow_add-count
overflow_add-count c = let args = c.args in
    let u = c.loop-j.invariant.under in
    let e = c.bracket-count.ensures in
    let l = bracket-least args.nodes.now c.loop-j.j in
    search rules

pub overflow_mul-j : goal.overflow_mul-j
overflow_mul-j c = let u = c.loop-j.invariant.under in search rules

pub offset_bounds-nodes-j : goal.offset_bounds-nodes-j
offset_bounds-nodes-j c = let u = c.loop-j.invariant.under in search rules

pub bounds-nodes-j : goal.bounds-nodes-j
bounds-nodes-j c = let u = c.loop-j.invariant.under in search rules

pub returns-then-j-up : goal.returns-then-j-up
returns-then-j-up c = climb-last c.loop-j.invariant c.loop-j-test.true c.bracket-count.ensures c.wide-up.ensures c.if-j-up.true

pub loop-j-preserved : goal.loop-j-preserved
loop-j-preserved c = climb-more c.loop-j.invariant c.loop-j-test.true c.bracket-count.ensures c.wide-up.ensures c.if-j-up.false

pub returns : goal.returns
returns c = climb-met c.loop-j.invariant c.loop-j-test.false
