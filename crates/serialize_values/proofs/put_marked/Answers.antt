use Rattle.lists.proofs.Prelude.{arith}
use Rattle.store_bytes.proofs.Written.{wrote_none, wrote-is}
use Rattle.serialize_values.proofs.Boxed.{marked-point, unmarked-point}
use Rattle.serialize_values.proofs.put_marked.Goals as goal

pub returns-then-mark : goal.returns-then-mark
returns-then-mark c = wrote-is (marked-point c.args.i c.if-mark.true) c.put_point.ensures

pub returns : goal.returns
returns c = let args = c.args in
    wrote-is (unmarked-point args.i c.if-mark.false) (wrote_none args.out.now args.at (omega (arith, c.well_formed)))
