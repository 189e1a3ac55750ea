use Rattle.serialize.proofs.Walked.{bad-never, bad-below, bad-root}
use Rattle.serialize.proofs.property.bad_at.Goals as goal

pub returns-then-not-mends : goal.returns-then-not-mends
returns-then-not-mends c = let args = c.args in
    bad-never args.mends args.text.now args.nodes.now args.properties.now args.values.now args.k c.if-not-mends.true

pub returns-then-nodes-k : goal.returns-then-nodes-k
returns-then-nodes-k c = let args = c.args in
    bad-below args.mends args.text.now args.nodes.now args.properties.now args.values.now args.k c.if-nodes-k.true

pub returns : goal.returns
returns c = let args = c.args in
    bad-root args.mends args.text.now args.nodes.now args.properties.now args.values.now args.k c.if-not-mends.false c.if-nodes-k.false c.wide-first.ensures c.wide-count.ensures c.gms_bad.ensures
