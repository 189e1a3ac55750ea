use Rattle.edit_rows.proofs.Shifting.{NamesMoving}
use Rattle.edit_rows.proofs.shift_all_names.Given as goal

abbrev pub invariant-loop-i : goal.invariant-loop-i
invariant-loop-i l = NamesMoving l.initial.properties l.k l.left l.by l.properties l.i
