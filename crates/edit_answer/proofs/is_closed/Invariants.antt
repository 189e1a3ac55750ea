use Rattle.lexer.specs.Closed.{closed_from, closed}
use Rattle.lists.proofs.Prelude.{length, drop, ◌≡◌, ◌-◌}
use Rattle.edit_answer.proofs.is_closed.Given as goal

abbrev pub invariant-loop-i : goal.invariant-loop-i
invariant-loop-i l = closed_from l.escaped (drop l.i l.value) ≡ closed l.value

abbrev pub decreases-loop-i : goal.decreases-loop-i
decreases-loop-i l = length l.value - l.i
