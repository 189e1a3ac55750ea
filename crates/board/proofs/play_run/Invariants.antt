use Rattle.lists.proofs.Prelude.{◌-◌, ◌≤◌}
use Rattle.board.specs.Answer.{node_properties}
use Rattle.board.specs.Locals.{WayPlayed}
use Rattle.board.proofs.play_run.Given as goal

abbrev pub invariant-loop-at : goal.invariant-loop-at
invariant-loop-at l = WayPlayed l.columns l.rows l.nodes (node_properties l.text l.nodes l.properties l.values) l.k l.at l.stones l.then × (l.from ≤ l.at)

abbrev pub decreases-loop-at : goal.decreases-loop-at
decreases-loop-at l = l.k - l.at
