use Rattle.lists.proofs.Prelude.{◌+◌, ◌-◌}
use Rattle.parts.specs.Rows.{values_at}
use Rattle.go.proofs.Marked.{Gathering}
use Rattle.go.proofs.set.read_points.Given as goal

abbrev pub invariant-loop-n : goal.invariant-loop-n
invariant-loop-n l = Gathering (values_at l.text l.vals l.first l.count) (values_at l.text l.vals (l.first + l.n) (l.count - l.n)) l.marks
