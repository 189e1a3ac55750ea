use Rattle.lists.proofs.Prelude.{not-true, not-false}
use Rattle.fit_spans.proofs.Ascents.{property-not, property-is}
use Rattle.fit_spans.proofs.property_spans.Goals as goal

pub returns-then-not-name : goal.returns-then-not-name
returns-then-not-name c = let a = c.args in property-not a.properties.now a.values.now a.k c.wide-start.ensures c.wide-end.ensures c.span_after-name.ensures (not-true _ c.if-not-name.true)

pub returns : goal.returns
returns c = let a = c.args in property-is a.properties.now a.values.now a.k c.wide-start.ensures c.wide-end.ensures c.span_after-name.ensures (not-false _ c.if-not-name.false) c.wide-first.ensures c.wide-count.ensures c.value_spans.ensures
