use Rattle.lists.proofs.Prelude.{◌≡◌}
use Rattle.serialize.specs.Locals.{Above}
use Rattle.serialize.proofs.Climbs.{Ends}
use Rattle.serialize.proofs.brackets.put_ends.Given as goal

abbrev pub invariant-loop-at : goal.invariant-loop-at
invariant-loop-at l = (l.top ≡ l.p) × Above l.nodes l.k l.p × Ends l.nodes l.k l.p l.j l.initial.out l.at l.out l.to

abbrev pub decreases-loop-at : goal.decreases-loop-at
decreases-loop-at l = l.j
