use Rattle.lists.proofs.Prelude.{◌≤◌, ◌≡◌}
use Rattle.fit_nodes.specs.Nodes.{on_path}
use Rattle.fit_nodes.proofs.on_path.Given as goal

abbrev pub invariant-loop-j : goal.invariant-loop-j
invariant-loop-j l = (l.j ≤ l.from) × (on_path l.nodes l.j l.p ≡ on_path l.nodes l.from l.p)

abbrev pub decreases-loop-j : goal.decreases-loop-j
decreases-loop-j l = l.j
