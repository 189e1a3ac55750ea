use Rattle.fit_spans.proofs.Ascents.{span-out, span-in}
use Rattle.fit_spans.proofs.span_after.Goals as goal

pub returns-then-used-end : goal.returns-then-used-end
returns-then-used-end c = span-out _ _ _ _ c.if-used-end.true

pub returns : goal.returns
returns c = span-in _ _ _ _ c.if-used-end.false
