use Rattle.lists.proofs.Prelude.{ℕ, ◌-◌, ◌/◌, ◌<◌, length}
use Rattle.board_path.specs.LocalsNext.{Along}
use Rattle.tables.specs.Columns.{node_stride, child_at}
use Rattle.lists.proofs.Prelude.{ℕ, ◌-◌, ◌/◌, ◌<◌, length}
use Rattle.board_path.proofs.next_on.Given as goal

abbrev pub invariant-loop-c : goal.invariant-loop-c
invariant-loop-c l = ((r : ℕ) → Along l.nodes l.k l.c r → Along l.nodes l.k (child_at l.nodes l.at) r) × (l.c < length l.nodes / node_stride)

abbrev pub decreases-loop-c : goal.decreases-loop-c
decreases-loop-c l = length l.nodes / node_stride - l.c
