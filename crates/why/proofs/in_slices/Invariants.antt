use Rattle.why.specs.LocalsTrees.{Searching}
use Rattle.why.proofs.in_slices.Given as goal

abbrev pub invariant-loop-k : goal.invariant-loop-k
invariant-loop-k l = Searching l.s l.from l.count l.at l.base l.k
