use Rattle.lists.proofs.Prelude.{◌-◌, length}
use Rattle.parser_census.proofs.Counting.{Counting}
use Rattle.parser_census.proofs.count_values.Given as goal

abbrev pub invariant-loop-next : goal.invariant-loop-next
invariant-loop-next l = Counting l.s l.from l.i l.n

abbrev pub decreases-loop-next : goal.decreases-loop-next
decreases-loop-next l = length l.s - l.i
