use Rattle.lists.proofs.Prelude.{◌-◌, length}
use Rattle.go.proofs.Marked.{Gathering}
use Rattle.salvage_form.specs.Measured.{raws_at}
use Rattle.salvage_form.proofs.set_length.Given as goal

abbrev pub invariant-loop-a : goal.invariant-loop-a
invariant-loop-a l = Gathering (raws_at l.s l.k) (raws_at l.s l.at) l.marks

abbrev pub decreases-loop-a : goal.decreases-loop-a
decreases-loop-a l = length l.s - l.at
