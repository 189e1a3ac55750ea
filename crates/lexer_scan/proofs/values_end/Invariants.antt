use Rattle.lists.proofs.Prelude.{◌-◌, ◌≡◌, length}
use Rattle.lexer_scan.specs.Scan.{values_end_at}
use Rattle.lexer_scan.proofs.values_end.Given as goal

abbrev pub invariant-loop-i : goal.invariant-loop-i
invariant-loop-i l = values_end_at l.s l.i ≡ values_end_at l.s l.from

abbrev pub decreases-loop-i : goal.decreases-loop-i
decreases-loop-i l = length l.s - l.i
