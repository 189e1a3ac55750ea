use Rattle.lists.proofs.Prelude.{◌-◌, length}
use Rattle.value_display.proofs.Texts.{Same}
use Rattle.value_display.proofs.next_text.Given as goal

abbrev pub invariant-loop-b : goal.invariant-loop-b
invariant-loop-b l = Same l.s l.from l.at

abbrev pub decreases-loop-b : goal.decreases-loop-b
decreases-loop-b l = length l.s - l.at
