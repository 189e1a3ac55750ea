use Rattle.salvage_depth.proofs.Steps.{Climbing}
use Rattle.salvage_depth.proofs.shut.Given as goal

abbrev pub invariant-loop-j : goal.invariant-loop-j
invariant-loop-j l = Climbing l.nodes l.k l.p l.j l.count

abbrev pub decreases-loop-j : goal.decreases-loop-j
decreases-loop-j l = l.j
