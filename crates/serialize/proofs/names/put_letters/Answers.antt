use Rattle.lists.proofs.Prelude.{arith}
use Rattle.store_bytes.proofs.Written.{wrote-length}
use Rattle.values.specs.Read.{read_identifier}
use Rattle.go_shape.proofs.Identifiers.{letter-past, letter-here, letter-on}
use Rattle.serialize_values.proofs.Writing.{writing-first, writing-is, writing-next, writing-end}
use Rattle.serialize.proofs.names.put_letters.Goals as goal

pub loop-i-init : goal.loop-i-init
loop-i-init c = let args = c.args in
    let good = c.well_formed in
    writing-first (read_identifier args.name.now) args.out.now args.at (omega (arith, good)) (omega (arith, good))

pub loop-i-preserved-then-b : goal.loop-i-preserved-then-b
loop-i-preserved-then-b c = let loop = c.loop-i in
    writing-next c.put_byte-to.ensures (writing-is (letter-here c.args.name.now loop.i c.loop-i-test.true c.if-b.true) loop.invariant)

pub loop-i-preserved : goal.loop-i-preserved
loop-i-preserved c = let loop = c.loop-i in
    writing-is (letter-on c.args.name.now loop.i c.loop-i-test.true c.if-b.false) loop.invariant

pub shape_of-out : goal.shape_of-out
shape_of-out c = wrote-length c.loop-i.invariant.wrote

pub returns : goal.returns
returns c = let loop = c.loop-i in
    writing-end (writing-is (letter-past c.args.name.now loop.i c.loop-i-test.false) loop.invariant)
