use Rattle.lists.proofs.Prelude.{◌-◌, ◌≡◌, length, drop}
use Rattle.go.specs.Normal.{points_from}
use Rattle.serialize_values.specs.LocalsForm.{raws_text}
use Rattle.serialize_values.proofs.Writing.{Writing}
use Rattle.serialize_values.proofs.put_points.Given as goal

abbrev pub invariant-loop-i : goal.invariant-loop-i
invariant-loop-i l = Writing (raws_text (points_from 0 l.marks)) (raws_text (points_from l.i (drop l.i l.marks))) l.initial.out l.at l.out l.to × (length l.marks ≡ 2704)

abbrev pub decreases-loop-i : goal.decreases-loop-i
decreases-loop-i l = 2704 - l.i
