use Rattle.lists.proofs.Prelude.{arith}
use Rattle.serialize.proofs.Walked.{node-above, node-placed, node-wrote}
use Rattle.serialize.proofs.walk.put_node.Goals as goal

pub put_ends-ended-requires : goal.put_ends-ended-requires
put_ends-ended-requires c = node-above c.requires

pub put_start-started-requires : goal.put_start-started-requires
put_start-started-requires c = node-placed c.requires

pub returns : goal.returns
returns c = let args = c.args in
    let good = c.well_formed in
    node-wrote args.mends args.text.now args.nodes.now args.properties.now args.values.now args.rule args.k (omega (arith, good)) (omega (arith, good)) c.put_ends-ended.ensures c.put_start-started.ensures c.put_byte-to.ensures c.put_properties.ensures
