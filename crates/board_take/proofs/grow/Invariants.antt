use Rattle.lists.proofs.Prelude.{◌-◌}
use Rattle.board_take.proofs.Growing.{Flooding}
use Rattle.board_take.proofs.grow.Given as goal

abbrev pub invariant-loop-i : goal.invariant-loop-i
invariant-loop-i l = Flooding l.columns l.rows l.stones l.colour l.stop l.initial.marks l.marks l.queue l.n l.i

abbrev pub decreases-loop-i : goal.decreases-loop-i
decreases-loop-i l = 2704 - l.i
