use Rattle.lists.proofs.Prelude.{◌-◌}
use Rattle.sgf_values.proofs.say_property.Given as goal

abbrev pub decreases-loop-i : goal.decreases-loop-i
decreases-loop-i l = l.count - l.i
