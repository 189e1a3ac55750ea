use Rattle.fit_spans.proofs.Fused.{spans-of}
use Rattle.fit_spans.proofs.Ranges.{gapless-in}
use Rattle.fit_spans.proofs.Lying.{values-lie}
use Rattle.tables.proofs.Cases.{passed, refused}
use Rattle.fit_spans.specs.Spans.{spans_fit}
use Rattle.lists.proofs.Prelude.{length, arith}
use Rattle.fit_spans.proofs.spans_fit.Goals as goal

pub spans_right-requires : goal.spans_right-requires
spans_right-requires c = (c.requires.0, (λ p l. omega (arith, c.requires.1, gapless-in _ _ _ _ c.requires.3 p l)), c.requires.2)

pub returns-then-not-spans_right : goal.returns-then-not-spans_right
unfolding spans_fit
returns-then-not-spans_right c = rw (refused c.spans_right.ensures c.if-not-spans_right.true-raw)

pub values_right-requires : goal.values_right-requires
values_right-requires c = (c.requires.1, values-lie _ _ _ _ (spans-of c.args.text.now c.args.properties.now c.args.values.now (length c.args.text.now) c.args.counts.properties (passed c.spans_right.ensures c.if-not-spans_right.false-raw)) _ c.requires.3)

pub returns : goal.returns
unfolding spans_fit
returns c = rw (passed c.spans_right.ensures c.if-not-spans_right.false-raw) c.values_right.ensures
