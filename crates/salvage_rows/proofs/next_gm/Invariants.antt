use Rattle.salvage_rows.proofs.Searching.{Searched}
use Rattle.salvage_rows.proofs.next_gm.Given as goal

abbrev pub invariant-loop-p : goal.invariant-loop-p
invariant-loop-p l = Searched l.text l.properties l.from l.to l.p
