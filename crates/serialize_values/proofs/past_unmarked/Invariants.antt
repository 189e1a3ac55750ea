use Rattle.lists.proofs.Prelude.{◌≡◌, ◌-◌, ◌≤◌, ◌<◌, length, drop}
use Rattle.go.specs.Normal.{points_from}
use Rattle.serialize_values.proofs.past_unmarked.Given as goal

abbrev pub invariant-loop-at : goal.invariant-loop-at
invariant-loop-at l = (l.i ≤ l.at) × (l.at < 2704) × (points_from l.i (drop l.i l.marks) ≡ points_from l.at (drop l.at l.marks)) × (length l.marks ≡ 2704)

abbrev pub decreases-loop-at : goal.decreases-loop-at
decreases-loop-at l = 2704 - l.at
