use Rattle.feed_check.specs.LocalsOwner.{Behind}
use Rattle.feed_check.proofs.owner_from.Given as goal

abbrev pub invariant-loop-p : goal.invariant-loop-p
invariant-loop-p l = Behind l.properties l.n l.p l.k
