use Rattle.lists.proofs.Prelude.{arith}
use Rattle.serialize_values.proofs.Boxed.{box-wrote}
use Rattle.serialize_values.proofs.put_box.Goals as goal

pub returns : goal.returns
returns c = let good = c.well_formed in
    box-wrote c.args.value.now (omega (arith, good)) (omega (arith, good)) c.put_byte-from.ensures c.put_bytes-to.ensures c.put_byte.ensures
