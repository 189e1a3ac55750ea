use Rattle.lists.proofs.Prelude.{arith}
use Rattle.season_tally.specs.Locals.{played_at}
use Rattle.season_tally.proofs.Playing.{goes_first, goes_step, goes_end}
use Rattle.season_tally.proofs.count_range.Goals as goal

pub loop-p-init : goal.loop-p-init
loop-p-init c = let a = c.args in
    (goes_first (played_at a.rule a.text.now a.properties.now a.values.now) a.from a.moves c.requires.1, c.requires.2)

pub add-sum-requires : goal.add-sum-requires
add-sum-requires c = let b = c.loop-p.invariant.0.below in
    record { black = omega (arith, b.black); white = omega (arith, b.white); passes = omega (arith, b.passes) }

pub loop-p-preserved : goal.loop-p-preserved
loop-p-preserved c = let a = c.args in
    let l = c.loop-p in (
      goes_step (played_at a.rule a.text.now a.properties.now a.values.now) a.from a.moves l.p l.sum _ c.played_at-what.result (omega arith)
          c.played_at-what.ensures c.add-sum.ensures l.invariant.0,
      c.tag_more-first.ensures,
    )

pub returns : goal.returns
returns c = let a = c.args in
    let l = c.loop-p in (
      goes_end (played_at a.rule a.text.now a.properties.now a.values.now) a.from a.moves l.p a.to l.sum (omega (arith, c.requires.0)) c.loop-p-test.false l.invariant.0,
      l.invariant.1,
    )
