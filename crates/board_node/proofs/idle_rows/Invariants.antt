use Rattle.lists.proofs.Prelude.{ℕ, ◌<◌, ◌≤◌}
use Rattle.values.specs.Read.{read_identifier}
use Rattle.parts_props.specs.Props.{identifier_at}
use Rattle.board_node.specs.LocalsSeen.{Idle}
use Rattle.board_node.proofs.idle_rows.Given as goal

abbrev pub invariant-loop-p : goal.invariant-loop-p
invariant-loop-p l = (q : ℕ) → l.first ≤ q → q < l.p → Idle (read_identifier (identifier_at l.text l.properties q))
