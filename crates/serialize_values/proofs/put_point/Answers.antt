use Rattle.lists.proofs.Prelude.{arith}
use Rattle.serialize_values.proofs.Boxed.{point-wrote}
use Rattle.serialize_values.proofs.put_point.Goals as goal

pub returns : goal.returns
returns c = let args = c.args in
    let good = c.well_formed in
    point-wrote args.x args.y (omega (arith, good)) (omega (arith, good)) c.letter_at.ensures c.letter_at-2.ensures c.put_byte-from.ensures c.put_byte-next.ensures c.put_byte-to.ensures c.put_byte.ensures
