use Rattle.tables.proofs.Cases.{passed, refused}
use Rattle.fit_spans.specs.LocalsParts.{parts_fit}
use Rattle.fit_spans.proofs.Lent.{lent_is, ranges-values}
use Rattle.fit_spans.proofs.parts_fit.Goals as goal

pub returns-then-not-is_lent : goal.returns-then-not-is_lent
unfolding parts_fit
returns-then-not-is_lent c = rw (refused c.is_lent.ensures c.if-not-is_lent.true-raw)

pub ranges_fit-requires : goal.ranges_fit-requires
ranges_fit-requires c = let a = c.args in let l = lent_is a.text.now a.counts a.nodes.now a.properties.now a.values.now (passed c.is_lent.ensures c.if-not-is_lent.false-raw) in (l.1, l.2)

pub returns-then-not-ranges_fit : goal.returns-then-not-ranges_fit
unfolding parts_fit
returns-then-not-ranges_fit c = rw (passed c.is_lent.ensures c.if-not-is_lent.false-raw, refused c.ranges_fit.ensures c.if-not-ranges_fit.true-raw)

pub spans_fit-requires : goal.spans_fit-requires
spans_fit-requires c = let a = c.args in let l = lent_is a.text.now a.counts a.nodes.now a.properties.now a.values.now (passed c.is_lent.ensures c.if-not-is_lent.false-raw) in (l.2, l.3, l.0, ranges-values _ _ _ (passed c.ranges_fit.ensures c.if-not-ranges_fit.false-raw))

pub returns : goal.returns
unfolding parts_fit
returns c = rw (passed c.is_lent.ensures c.if-not-is_lent.false-raw, passed c.ranges_fit.ensures c.if-not-ranges_fit.false-raw) c.spans_fit.ensures
