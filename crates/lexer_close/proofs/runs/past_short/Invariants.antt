use Rattle.lexer_close.specs.LocalsRun.{LeadsTo}
use Rattle.lexer_close.proofs.runs.past_short.Given as goal

abbrev pub invariant-loop-i : goal.invariant-loop-i
invariant-loop-i l = LeadsTo l.s l.from l.i
