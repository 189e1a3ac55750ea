use Rattle.lists.proofs.Prelude.{◌+◌, ◌*◌}
use Rattle.board_take.specs.LocalsShort.{SettledTo}
use Rattle.board_take.proofs.settled.Given as goal

abbrev pub invariant-loop-x : goal.invariant-loop-x
invariant-loop-x l = SettledTo l.columns l.rows l.stones (52 * l.x)

abbrev pub invariant-loop-y : goal.invariant-loop-y
invariant-loop-y l = SettledTo l.columns l.rows l.stones (52 * l.x + l.y)
