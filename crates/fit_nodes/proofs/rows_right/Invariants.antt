use Rattle.fit_nodes.proofs.Roots.{rest}
use Rattle.fit_nodes.specs.Nodes.{roots_right, parent_right, depth_right}
use Rattle.tables.specs.Each.{each}
use Rattle.lists.proofs.Prelude.{◌≤◌, ◌≡◌, true}
use Rattle.fit_nodes.proofs.rows_right.Given as goal

abbrev pub invariant-loop-k : goal.invariant-loop-k
invariant-loop-k l = (l.r ≤ l.m) × (rest l.trees l.nodes l.m l.n l.r l.k ≡ roots_right l.m l.n l.trees l.nodes)
    × (each l.k (parent_right l.nodes) ≡ true) × (each l.k (depth_right l.nodes) ≡ true)
