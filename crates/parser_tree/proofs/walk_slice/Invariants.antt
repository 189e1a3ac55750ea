use Rattle.parser_tree.proofs.Walking.{Walking}
use Rattle.lists.proofs.Prelude.{◌-◌, length}
use Rattle.parser_tree.proofs.walk_slice.Given as goal

abbrev pub invariant-loop-i : goal.invariant-loop-i
invariant-loop-i l = Walking l.lenient l.s l.from l.base l.p0 l.v0 l.initial.nodes l.initial.props l.initial.vals l.nodes l.props l.vals l.stack l.w

abbrev pub decreases-loop-i : goal.decreases-loop-i
decreases-loop-i l = length l.s - l.w.at
