use Rattle.board.specs.Locals.{WayPlayed}
use Rattle.board.specs.Answer.{node_properties}
use Rattle.lists.proofs.Prelude.{◌-◌}
use Rattle.board.proofs.play_way.Given as goal

abbrev pub invariant-loop-at : goal.invariant-loop-at
invariant-loop-at l = WayPlayed l.columns l.rows l.nodes (node_properties l.text l.nodes l.properties l.values) l.k l.at l.stones l.state

abbrev pub decreases-loop-at : goal.decreases-loop-at
decreases-loop-at l = l.k - l.at
