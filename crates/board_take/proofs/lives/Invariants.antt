use Rattle.lists.proofs.Prelude.{◌-◌, ◌≤◌}
use Rattle.board_take.proofs.Short.{ShortOf}
use Rattle.board_take.proofs.lives.Given as goal

abbrev pub invariant-loop-i : goal.invariant-loop-i
invariant-loop-i l = ShortOf l.columns l.rows l.stones l.colour l.p l.queue l.n × (l.i ≤ l.n)

abbrev pub decreases-loop-i : goal.decreases-loop-i
decreases-loop-i l = 32 - l.i
