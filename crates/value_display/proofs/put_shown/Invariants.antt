use Rattle.lists.proofs.Prelude.{◌-◌, length}
use Rattle.value_display.proofs.Displays.{Displaying}
use Rattle.value_display.proofs.put_shown.Given as goal

abbrev pub invariant-loop-b : goal.invariant-loop-b
invariant-loop-b l = Displaying l.kind l.raw l.initial.out l.out l.at l.to

abbrev pub decreases-loop-b : goal.decreases-loop-b
decreases-loop-b l = length l.raw - l.at
