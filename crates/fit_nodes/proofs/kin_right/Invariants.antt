use Rattle.fit_nodes.proofs.Siblings.{Past}
use Rattle.fit_nodes.specs.Nodes.{child_right}
use Rattle.tables.specs.Each.{each}
use Rattle.lists.proofs.Prelude.{◌-◌, ◌≡◌, true}
use Rattle.fit_nodes.proofs.kin_right.Given as goal

abbrev pub invariant-loop-k : goal.invariant-loop-k
invariant-loop-k l = Past l.nodes l.n l.k × (each (l.k - 1) (child_right l.nodes l.n) ≡ true)
