use Rattle.lists.proofs.Prelude.{◌-◌}
use Rattle.sgf_values.proofs.say_values.Given as goal

abbrev pub decreases-loop-p : goal.decreases-loop-p
decreases-loop-p l = l.p-end - l.p
