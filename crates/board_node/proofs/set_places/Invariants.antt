use Rattle.lists.proofs.Prelude.{drop}
use Rattle.board_node.specs.LocalsTurn.{LeadsOn}
use Rattle.board_node.specs.Node.{sets_from}
use Rattle.board_node.proofs.set_places.Given as goal

abbrev pub invariant-loop-p : goal.invariant-loop-p
invariant-loop-p l = LeadsOn l.columns l.rows (sets_from l.colour 0 l.marks) (sets_from l.colour l.p (drop l.p l.marks))
    l.initial.seen l.initial.stones l.initial.then l.seen l.stones l.then
