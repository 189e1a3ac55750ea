use Rattle.fit_spans.proofs.Fused.{name-lies, both-spans, both-names, both_right}
use Rattle.fit_spans.proofs.Ascents.{spanning-first, spanning-end, spanning-not, spanning-more}
use Rattle.tables.proofs.Each.{each_none, each_more}
use Rattle.tables.proofs.Cases.{passed, refused}
use Rattle.lists.proofs.Prelude.{length, sym, ◌∙◌, arith, not-true, not-false}
use Rattle.fit_spans.proofs.spans_right.Goals as goal

pub loop-k-init : goal.loop-k-init
loop-k-init c = (spanning-first c.args.properties.now c.args.values.now c.args.n (length c.args.text.now), each_none _)

pub returns-then-not-ascent : goal.returns-then-not-ascent
returns-then-not-ascent c = both-spans c.args.text.now c.args.properties.now c.args.values.now (length c.args.text.now) c.args.n (sym c.loop-k.invariant.0 ∙ spanning-not c.args.properties.now c.args.values.now c.args.n (length c.args.text.now) c.loop-k-test.true c.property_spans-ascent.ensures (not-true _ c.if-not-ascent.true))

pub name_right-requires : goal.name_right-requires
name_right-requires c = let z = name-lies c.args.properties.now c.args.values.now c.loop-k.k (length c.args.text.now) c.loop-k.next c.property_spans-ascent.ensures (not-false _ c.if-not-ascent.false) in (omega (arith, c.loop-k-test.true, c.requires.0), z.0, z.1)

pub returns-then-not-name_right : goal.returns-then-not-name_right
returns-then-not-name_right c = both-names c.args.text.now c.args.properties.now c.args.values.now (length c.args.text.now) c.args.n c.loop-k.k c.loop-k-test.true (refused c.name_right.ensures c.if-not-name_right.true-raw)

pub loop-k-preserved : goal.loop-k-preserved
loop-k-preserved c = (sym (spanning-more c.args.properties.now c.args.values.now c.args.n (length c.args.text.now) c.loop-k-test.true c.property_spans-ascent.ensures (not-false _ c.if-not-ascent.false)) ∙ c.loop-k.invariant.0, each_more _ _ c.loop-k.invariant.1 (passed c.name_right.ensures c.if-not-name_right.false-raw))

pub returns : goal.returns
returns c = both_right c.args.text.now c.args.properties.now c.args.values.now (length c.args.text.now) c.args.n (sym (spanning-end c.args.properties.now c.args.values.now c.args.n (length c.args.text.now) c.loop-k.next _ c.loop-k-test.false) ∙ c.loop-k.invariant.0) _ c.loop-k.auto.k-end c.loop-k-test.false c.loop-k.invariant.1
