use Rattle.lists.proofs.Prelude.{◌+◌}
use Rattle.go.specs.Marks.{Adds, in_rect}
use Rattle.go.proofs.set.mark_rect.Given as goal

abbrev pub invariant-loop-at : goal.invariant-loop-at
invariant-loop-at l = Adds (in_rect l.x l.at l.y (l.y2 + 1)) l.initial.marks l.marks
