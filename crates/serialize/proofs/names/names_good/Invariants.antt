use Rattle.lists.proofs.Prelude.{◌-◌, ◌≤◌, true, ◌≡◌}
use Rattle.tables.specs.Each.{each}
use Rattle.serialize.specs.LocalsWalk.{has_name}
use Rattle.serialize.proofs.names.names_good.Given as goal

abbrev pub invariant-loop-k : goal.invariant-loop-k
invariant-loop-k l = (l.k ≤ l.n) × (each l.k (has_name l.text l.properties) ≡ true)

abbrev pub decreases-loop-k : goal.decreases-loop-k
decreases-loop-k l = l.n - l.k
