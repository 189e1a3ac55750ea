use Rattle.fit_rule.proofs.Ruling.{size-no-tree, size-no-node, size-there}
use Rattle.fit_rule.proofs.size_at.Goals as goal

pub returns-then-trees-r : goal.returns-then-trees-r
returns-then-trees-r c = let args = c.args in size-no-tree args.text.now args.trees.now args.nodes.now args.properties.now args.values.now args.r c.if-trees-r.true

pub returns-then-nodes-root : goal.returns-then-nodes-root
returns-then-nodes-root c = let args = c.args in size-no-node args.text.now args.trees.now args.nodes.now args.properties.now args.values.now args.r c.wide-root.ensures c.if-nodes-root.true

pub returns : goal.returns
returns c = let args = c.args in size-there args.text.now args.trees.now args.nodes.now args.properties.now args.values.now args.r c.if-trees-r.false c.wide-root.ensures c.if-nodes-root.false c.wide-first.ensures c.wide-count.ensures c.size_in.ensures
