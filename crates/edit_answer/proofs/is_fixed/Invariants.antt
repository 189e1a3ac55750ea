use Rattle.edit_answer.proofs.Tested.{Owner}
use Rattle.lists.proofs.Prelude.{◌-◌}
use Rattle.edit_answer.proofs.is_fixed.Given as goal

abbrev pub invariant-loop-p : goal.invariant-loop-p
invariant-loop-p l = Owner l.text l.properties l.n l.k l.p

abbrev pub decreases-loop-p : goal.decreases-loop-p
decreases-loop-p l = l.n - l.p
