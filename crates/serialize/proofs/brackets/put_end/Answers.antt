use Rattle.lists.proofs.Prelude.{arith}
use Rattle.store_bytes.proofs.Written.{wrote_none, wrote-is}
use Rattle.serialize.proofs.Climbs.{shut_by}
use Rattle.serialize.proofs.brackets.put_end.Goals as goal

pub returns-then-in_brackets : goal.returns-then-in_brackets
returns-then-in_brackets c = let args = c.args in
    wrote-is (shut_by args.nodes.now args.k c.in_brackets.ensures c.if-in_brackets.true) c.put_byte.ensures

pub returns : goal.returns
returns c = let args = c.args in
    wrote-is (shut_by args.nodes.now args.k c.in_brackets.ensures c.if-in_brackets.false) (wrote_none args.out.now args.at (omega (arith, c.well_formed)))
