use Rattle.lists.proofs.Prelude.{◌-◌, ◌≤◌}
use Rattle.lexer_close.specs.LocalsRun.{LeadsTo}
use Rattle.lexer_close.proofs.runs.past_blocks.Given as goal

abbrev pub invariant-loop-i : goal.invariant-loop-i
invariant-loop-i g l = LeadsTo l.s l.from l.i × (l.i ≤ l.stop)

abbrev pub decreases-loop-i : goal.decreases-loop-i
decreases-loop-i g l = l.stop - l.i
