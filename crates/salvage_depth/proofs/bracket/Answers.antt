use Rattle.salvage_depth.proofs.Steps.{bracket-root, bracket-later, bracket-sibling, bracket-none}
use Rattle.salvage_depth.proofs.bracket.Goals as goal

pub returns-then-parent : goal.returns-then-parent
returns-then-parent c = let args = c.args in
    bracket-root args.nodes.now args.k c.if-parent.true

pub returns-then-child_of-k : goal.returns-then-child_of-k
returns-then-child_of-k c = let args = c.args in
    bracket-later args.nodes.now args.k c.if-parent.false c.child_of.ensures c.if-child_of-k.true

pub returns-then-nodes-k : goal.returns-then-nodes-k
returns-then-nodes-k c = let args = c.args in
    bracket-none args.nodes.now args.k c.if-parent.false c.child_of.ensures c.if-child_of-k.false c.if-nodes-k.true

pub returns : goal.returns
returns c = let args = c.args in
    bracket-sibling args.nodes.now args.k c.if-parent.false c.child_of.ensures c.if-child_of-k.false c.if-nodes-k.false
