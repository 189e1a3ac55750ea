use Rattle.lists.proofs.Prelude.{sym, ◌∙◌, arith, true≢false}
use Rattle.serialize.proofs.Corners.{corners-more}
use Rattle.serialize.proofs.walk.any_corner.Goals as goal

pub loop-v-init : goal.loop-v-init
loop-v-init c = (omega arith, λ i l. absurd (omega arith))

pub may_corner-requires : goal.may_corner-requires
may_corner-requires c = c.requires c.loop-v.v c.loop-v-test.true

pub returns-then-may_corner : goal.returns-then-may_corner
returns-then-may_corner c = λ e. absurd (true≢false e)

pub loop-v-preserved : goal.loop-v-preserved
loop-v-preserved c = let args = c.args in
    let loop = c.loop-v in
    (omega (arith, c.loop-v-test.true), corners-more args.text.now args.values.now loop.v loop.invariant.1 (sym c.may_corner.ensures ∙ c.if-may_corner.false))

pub returns : goal.returns
returns c = λ e i l. c.loop-v.invariant.1 i (omega (arith, l, c.loop-v-test.false))
