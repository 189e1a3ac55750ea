use Rattle.lists.proofs.Prelude.{◌-◌, ◌≡◌, length, drop}
use Rattle.lexer_close.specs.Close.{close_from, close_at}
use Rattle.lexer_close.proofs.value_end.Given as goal

abbrev pub invariant-loop-i : goal.invariant-loop-i
invariant-loop-i l = close_from l.escaped l.i (drop l.i l.s) ≡ close_at l.s l.from

abbrev pub decreases-loop-i : goal.decreases-loop-i
decreases-loop-i l = length l.s - l.i
