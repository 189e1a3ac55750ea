use Rattle.lists.proofs.Prelude.{◌-◌}
use Rattle.board_take.proofs.Listing.{Listing}
use Rattle.board_take.proofs.few.Given as goal

abbrev pub invariant-loop-i : goal.invariant-loop-i
invariant-loop-i l = Listing l.columns l.rows l.stones l.colour l.p l.queue l.n l.i

abbrev pub decreases-loop-i : goal.decreases-loop-i
decreases-loop-i l = 32 - l.i
