use Rattle.lists.proofs.Prelude.{◌+◌, arith, rules}
use Rattle.store_bytes.proofs.Written.{wrote-is, wrote-length}
use Rattle.serialize.specs.LocalsWalk.{kept_text}
use Rattle.serialize.proofs.Walked.{node-property, properties-are}
use Rattle.serialize.proofs.Texts.{texts-none, texts-more, texts-end}
use Rattle.serialize.proofs.property.put_properties.Goals as goal

pub bad_at-bad-requires : goal.bad_at-bad-requires
bad_at-bad-requires c = omega (arith, c.requires.lent)

pub loop-i-init : goal.loop-i-init
loop-i-init c = let args = c.args in
    (omega arith, texts-none (λ j. kept_text args.mends c.bad_at-bad.result args.text.now args.properties.now args.values.now args.rule (c.wide-first.result + j)) args.out.now args.at (omega (arith, c.well_formed)))

pub overflow_add-first : goal.overflow_add-first
overflow_add-first c = let h = (node-property c.requires c.wide-first.ensures c.wide-count.ensures c.loop-i.i c.loop-i-test.true).row in search rules

pub put_property-to-requires : goal.put_property-to-requires
put_property-to-requires c = node-property c.requires c.wide-first.ensures c.wide-count.ensures c.loop-i.i c.loop-i-test.true

pub loop-i-preserved : goal.loop-i-preserved
loop-i-preserved c = let args = c.args in
    let loop = c.loop-i in
    (omega (arith, c.loop-i-test.true), texts-more (λ j. kept_text args.mends c.bad_at-bad.result args.text.now args.properties.now args.values.now args.rule (c.wide-first.result + j)) loop.i (omega (arith, c.well_formed)) loop.invariant.1 c.put_property-to.ensures)

pub shape_of-out : goal.shape_of-out
shape_of-out c = wrote-length c.loop-i.invariant.1

pub returns : goal.returns
returns c = let args = c.args in
    let bad-at = c.bad_at-bad in
    let wide = c.wide-first in
    let wide2 = c.wide-count in
    let loop = c.loop-i in
    wrote-is (properties-are args.mends args.text.now args.nodes.now args.properties.now args.values.now args.rule args.k bad-at.ensures wide.ensures wide2.ensures) (texts-end (λ j. kept_text args.mends bad-at.result args.text.now args.properties.now args.values.now args.rule (wide.result + j)) loop.i wide2.result loop.invariant.0 c.loop-i-test.false loop.invariant.1)
