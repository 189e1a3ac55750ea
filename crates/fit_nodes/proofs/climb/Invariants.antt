use Rattle.lists.proofs.Prelude.{◌/◌, ◌≤◌, length}
use Rattle.fit_nodes.proofs.Climbs.{Climbing}
use Rattle.tables.specs.Columns.{node_stride}
use Rattle.fit_nodes.proofs.climb.Given as goal

abbrev pub invariant-loop-n : goal.invariant-loop-n
invariant-loop-n l = (l.n ≤ length l.nodes / node_stride) × Climbing l.nodes l.n l.k l.p l.j

abbrev pub decreases-loop-n : goal.decreases-loop-n
decreases-loop-n l = l.j
