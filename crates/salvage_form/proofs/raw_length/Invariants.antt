use Rattle.lists.proofs.Prelude.{◌-◌, length}
use Rattle.salvage_form.proofs.Scanned.{Summing}
use Rattle.salvage_form.proofs.raw_length.Given as goal

abbrev pub invariant-loop-a : goal.invariant-loop-a
invariant-loop-a l = Summing l.s l.k l.n l.at

abbrev pub decreases-loop-a : goal.decreases-loop-a
decreases-loop-a l = length l.s - l.at
