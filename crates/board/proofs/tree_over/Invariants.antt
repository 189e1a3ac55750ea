use Rattle.lists.proofs.Prelude.{◌≡◌}
use Rattle.board.specs.Answer.{tree_over}
use Rattle.board.proofs.tree_over.Given as goal

abbrev pub invariant-loop-t : goal.invariant-loop-t
invariant-loop-t l = tree_over l.trees l.k l.t ≡ tree_over l.trees l.k l.n
