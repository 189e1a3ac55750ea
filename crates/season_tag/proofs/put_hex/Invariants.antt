use Rattle.season_tag.proofs.Putting.{Putting}
use Rattle.season_tag.proofs.put_hex.Given as goal

abbrev pub invariant-loop-k : goal.invariant-loop-k
invariant-loop-k l = Putting l.n l.initial.out l.at l.out l.next l.k
