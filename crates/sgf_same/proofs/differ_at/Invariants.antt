use Rattle.lists.proofs.Prelude.{◌-◌}
use Rattle.sgf_same.proofs.differ_at.Given as goal

abbrev pub decreases-loop-at : goal.decreases-loop-at
decreases-loop-at l = l.n - l.at
