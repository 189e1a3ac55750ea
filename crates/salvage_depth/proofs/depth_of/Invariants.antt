use Rattle.lists.proofs.Prelude.{◌/◌, ◌≤◌, ◌≡◌, length, min}
use Rattle.tables.specs.Columns.{node_stride}
use Rattle.salvage_depth.proofs.Steps.{Counting}
use Rattle.salvage_depth.proofs.depth_of.Given as goal

abbrev pub invariant-loop-k : goal.invariant-loop-k
invariant-loop-k l = (l.rows ≡ min l.n (length l.nodes / node_stride)) × (l.k ≤ l.rows) × Counting l.nodes l.k l.here l.deepest
