use Rattle.lists.proofs.Prelude.{◌≡◌, length}
use Rattle.sgf_board.proofs.picture.say_columns.Given as goal

abbrev pub invariant-loop-x : goal.invariant-loop-x
invariant-loop-x l = 4096 ≡ length l.line
