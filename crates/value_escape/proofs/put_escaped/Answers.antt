use Rattle.lists.proofs.Prelude.{arith}
use Rattle.value_escape.proofs.Escapes.{escaped-mark, escaped-plain}
use Rattle.value_escape.proofs.put_escaped.Goals as goal

pub returns-then-b : goal.returns-then-b
returns-then-b c = let args = c.args in
    let good = c.well_formed in
    escaped-mark (omega (arith, good)) c.if-b.true c.put_byte-next.ensures c.put_byte.ensures

pub returns : goal.returns
returns c = escaped-plain c.if-b.false c.put_byte-2.ensures
