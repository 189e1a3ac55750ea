use Rattle.lists.proofs.Prelude.{◌+◌, ◌-◌, ◌≡◌}
use Rattle.edit_rows.specs.LocalsShift.{names_before}
use Rattle.edit_rows.proofs.Shifting.{NamesMoving}
use Rattle.edit_rows.proofs.shift_names.Given as goal

abbrev pub invariant-loop-i : goal.invariant-loop-i
invariant-loop-i l = NamesMoving l.initial.properties l.k l.left l.by l.properties l.i × (names_before l.initial.properties l.v l.k l.left ≡ l.i + names_before l.initial.properties l.v (l.k + l.i) (l.left - l.i))
