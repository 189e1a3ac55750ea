use Rattle.lists.proofs.Prelude.{◌-◌, length}
use Rattle.cases_blocks.proofs.run.Given as goal

abbrev pub decreases-loop-at : goal.decreases-loop-at
decreases-loop-at l = length l.s - l.at
