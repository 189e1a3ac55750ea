use Rattle.lists.proofs.Prelude.{arith}
use Rattle.store_bytes.proofs.Written.{wrote_none, wrote-is}
use Rattle.serialize.proofs.Walked.{property-wrote, kept_here, kept-not}
use Rattle.serialize.proofs.property.put_property.Goals as goal

pub returns-then-not-is_kept : goal.returns-then-not-is_kept
returns-then-not-is_kept c = let args = c.args in
    wrote-is (kept-not args.mends args.bad args.text.now args.properties.now args.values.now args.rule args.p c.wide-start.ensures c.wide-end.ensures c.is_kept.ensures c.if-not-is_kept.true) (wrote_none args.out.now args.at (omega (arith, c.well_formed)))

pub returns : goal.returns
returns c = let args = c.args in
    let good = c.well_formed in
    wrote-is (kept_here args.mends args.bad args.text.now args.properties.now args.values.now args.rule args.p c.wide-start.ensures c.wide-end.ensures c.is_kept.ensures c.if-not-is_kept.false) (property-wrote args.text.now args.properties.now args.values.now args.rule args.p c.wide-start.ensures c.wide-end.ensures c.wide-first.ensures c.wide-count.ensures (omega (arith, good)) (omega (arith, good)) c.put_letters-to.ensures c.put_values.ensures)
