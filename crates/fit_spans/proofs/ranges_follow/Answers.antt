use Rattle.tables.proofs.Each.{each_none}
use Rattle.fit_spans.proofs.Ranges.{ranged-none, ranged-more, ranged-gap, ranged-over, both-gap, both-less, counts-more}
use Rattle.fit_spans.proofs.ranges_follow.Goals as goal

pub loop-k-init : goal.loop-k-init
loop-k-init c = (ranged-none _ _ _ _, each_none _)

pub returns-then-begins-sum : goal.returns-then-begins-sum
returns-then-begins-sum c = both-gap _ _ _ _ _ (ranged-gap _ _ c.loop-k.invariant.0 c.loop-k-test.true c.wide-begins.ensures c.if-begins-sum.true)

pub returns-then-total-sum : goal.returns-then-total-sum
returns-then-total-sum c = both-gap _ _ _ _ _ (ranged-over _ _ c.loop-k.invariant.0 c.loop-k-test.true c.wide-has.ensures c.if-total-sum.true)

pub returns-then-has-least : goal.returns-then-has-least
returns-then-has-least c = both-less _ _ _ _ _ _ c.loop-k-test.true c.wide-has.ensures c.if-has-least.true

pub loop-k-preserved : goal.loop-k-preserved
loop-k-preserved c = (
  ranged-more _ _ c.loop-k.invariant.0 c.loop-k-test.true c.wide-begins.ensures c.wide-has.ensures c.if-begins-sum.false c.if-total-sum.false,
  counts-more _ _ _ c.loop-k.invariant.1 c.wide-has.ensures c.if-has-least.false,
)
