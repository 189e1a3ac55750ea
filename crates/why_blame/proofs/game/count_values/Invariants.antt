use Rattle.lists.proofs.Prelude.{◌-◌, length}
use Rattle.why_blame.proofs.Games.{Counted}
use Rattle.why_blame.proofs.game.count_values.Given as goal

abbrev pub invariant-loop-next : goal.invariant-loop-next
invariant-loop-next l = Counted l.s l.from l.i l.n

abbrev pub decreases-loop-next : goal.decreases-loop-next
decreases-loop-next l = length l.s - l.i
