use Rattle.lists.proofs.Prelude.{◌-◌, length}
use Rattle.parser_tree.proofs.Takings.{Taking}
use Rattle.parser_tree.proofs.take_values.Given as goal

abbrev pub invariant-loop-a : goal.invariant-loop-a
invariant-loop-a l = Taking l.s l.from l.v0 l.initial.vals l.vals l.i l.v

abbrev pub decreases-loop-a : goal.decreases-loop-a
decreases-loop-a l = length l.s - l.i
