use Rattle.lists.proofs.Prelude.{arith}
use Rattle.store_bytes.proofs.Written.{wrote-length}
use Rattle.value_escape.proofs.Escapes.{escaped-first, escaped-step, escaped-last}
use Rattle.value_escape.proofs.put_text.Goals as goal

pub loop-b-init : goal.loop-b-init
loop-b-init c = let args = c.args in
    let good = c.well_formed in
    (omega arith, escaped-first args.text.now args.out.now (omega (arith, good)))

pub loop-b-preserved : goal.loop-b-preserved
loop-b-preserved c = let args = c.args in
    let good = c.well_formed in
    let loop = c.loop-b in
    (omega arith, escaped-step args.text.now args.out.now (omega (arith, good)) c.loop-b-test.true loop.invariant.1 c.put_escaped-to.ensures)

pub shape_of-out : goal.shape_of-out
shape_of-out c = wrote-length c.loop-b.invariant.1

pub returns : goal.returns
returns c = let args = c.args in
    escaped-last args.text.now args.out.now c.loop-b-test.false c.loop-b.invariant.1
