use Rattle.lists.proofs.Prelude.{arith, not-true, not-false}
use Rattle.fit_spans.proofs.Ascents.{values-not, values-more, values-end}
use Rattle.fit_spans.proofs.value_spans.Goals as goal

pub returns-then-not-step : goal.returns-then-not-step
returns-then-not-step c = values-not c.loop-k.invariant (omega arith) c.wide-start.ensures c.wide-end.ensures c.span_after-step.ensures (not-true _ c.if-not-step.true)

pub loop-k-preserved : goal.loop-k-preserved
loop-k-preserved c = values-more c.loop-k.invariant (omega arith) c.wide-start.ensures c.wide-end.ensures c.span_after-step.ensures (not-false _ c.if-not-step.false)

pub returns : goal.returns
returns c = values-end c.loop-k.invariant (omega arith)
