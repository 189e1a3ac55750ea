use Rattle.lists.proofs.Prelude.{◌+◌, ◌≤◌}
use Rattle.sgf_show.proofs.words.say_spot.Given as goal

abbrev pub invariant-loop-b : goal.invariant-loop-b
invariant-loop-b l = (l.line ≤ l.b-index + 1) × (l.column ≤ l.b-index + 1)
