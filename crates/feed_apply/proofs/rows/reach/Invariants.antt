use Rattle.lists.proofs.Prelude.{◌-◌}
use Rattle.feed_apply.specs.LocalsAlong.{Uncorrected}
use Rattle.feed_apply.specs.LocalsSizes.{Tallied}
use Rattle.feed_apply.proofs.rows.reach.Given as goal

abbrev pub invariant-loop-t : goal.invariant-loop-t
invariant-loop-t l = Tallied l.values l.feed l.n l.t × Uncorrected l.feed l.first l.t.due

abbrev pub decreases-loop-t : goal.decreases-loop-t
decreases-loop-t l = l.n - l.t.due
