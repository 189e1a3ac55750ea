use Rattle.edit_rows.proofs.Shifting.{ValuesMoving}
use Rattle.edit_rows.proofs.shift_values.Given as goal

abbrev pub invariant-loop-i : goal.invariant-loop-i
invariant-loop-i l = ValuesMoving l.initial.values l.k l.left l.by l.values l.i
