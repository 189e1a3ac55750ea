use Rattle.go_size.proofs.Sizes.{Searched}
use Rattle.go_size.proofs.next_size.Given as goal

abbrev pub invariant-loop-p : goal.invariant-loop-p
invariant-loop-p l = Searched l.text l.properties l.from l.to l.p
