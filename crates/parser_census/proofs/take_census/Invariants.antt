use Rattle.lists.proofs.Prelude.{◌-◌, length}
use Rattle.parser_census.proofs.Turns.{At-place}
use Rattle.parser_census.proofs.take_census.Given as goal

abbrev pub invariant-loop-i : goal.invariant-loop-i
invariant-loop-i l = At-place l.s l.from l.i l.mode l.depth l.t l.n l.p l.v

abbrev pub decreases-loop-i : goal.decreases-loop-i
decreases-loop-i l = length l.s - l.i
