use Rattle.lists.proofs.Prelude.{arith}
use Rattle.serialize.proofs.Rules.{roots-more, roots-same}
use Rattle.serialize.proofs.walk.roots_with.Goals as goal

pub returns-then-nodes-k : goal.returns-then-nodes-k
returns-then-nodes-k c = let args = c.args in
    let pre = c.requires in
    (roots-more args.nodes.now args.k pre.2 c.if-nodes-k.true, omega (arith, pre.1))

pub returns : goal.returns
returns c = let args = c.args in
    let pre = c.requires in
    (roots-same args.nodes.now args.k pre.2 c.if-nodes-k.false, omega (arith, pre.1))
