use Rattle.salvage_list.specs.LocalsWalk.{SlicesListed}
use Rattle.salvage_list.proofs.put_slices.Given as goal

abbrev pub invariant-loop-k : goal.invariant-loop-k
invariant-loop-k l = SlicesListed l.s l.from l.count l.at l.base l.p l.e l.k l.initial.rows l.rows
