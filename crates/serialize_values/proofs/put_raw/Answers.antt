use Rattle.lists.proofs.Prelude.{arith}
use Rattle.store_bytes.proofs.Written.{wrote-length}
use Rattle.parts.specs.Rows.{values_at}
use Rattle.serialize_values.specs.LocalsForm.{raws_text}
use Rattle.serialize_values.proofs.Boxed.{raw-all, raw-next, raw-end}
use Rattle.serialize_values.proofs.Writing.{writing-first, writing-is, writing-next, writing-end}
use Rattle.serialize_values.proofs.put_raw.Goals as goal

pub loop-i-init : goal.loop-i-init
loop-i-init c = let args = c.args in
    let good = c.well_formed in
    writing-is (raw-all args.text.now args.values.now args.first args.count) (writing-first (raws_text (values_at args.text.now args.values.now args.first args.count)) args.out.now args.at (omega (arith, good)) (omega (arith, good)))

pub loop-i-preserved : goal.loop-i-preserved
loop-i-preserved c = let args = c.args in
    let loop = c.loop-i in
    writing-next c.put_box-to.ensures (writing-is (raw-next args.text.now args.values.now args.first args.count loop.i c.loop-i-test.true c.value_at.ensures) loop.invariant)

pub shape_of-out : goal.shape_of-out
shape_of-out c = wrote-length c.loop-i.invariant.wrote

pub returns : goal.returns
returns c = let args = c.args in
    let loop = c.loop-i in
    writing-end (writing-is (raw-end args.text.now args.values.now args.first args.count loop.i c.loop-i-test.false) loop.invariant)
