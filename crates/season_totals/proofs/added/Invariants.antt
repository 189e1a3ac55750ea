use Rattle.season_totals.proofs.Sums.{Adding}
use Rattle.season_totals.proofs.added.Given as goal

abbrev pub invariant-loop-i : goal.invariant-loop-i
invariant-loop-i l = Adding l.initial.sums l.right.sums l.sums l.i
