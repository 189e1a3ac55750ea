use Rattle.lists.proofs.Prelude.{◌-◌}
use Rattle.sgf_board.proofs.last_node.Given as goal

abbrev pub decreases-loop-node : goal.decreases-loop-node
decreases-loop-node l = l.counts.nodes - l.node
