use Rattle.lists.proofs.Prelude.{◌+◌, ◌-◌}
use Rattle.sgf_board.proofs.fault.say_way.Given as goal

abbrev pub decreases-loop-node : goal.decreases-loop-node
decreases-loop-node l = (l.k + 1) - l.node
