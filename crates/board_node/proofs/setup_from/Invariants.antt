use Rattle.lists.proofs.Prelude.{ℕ, List}
use Rattle.parts_props.specs.Props.{property_at}
use Rattle.board_node.specs.LocalsTurn.{SetupsFrom}
use Rattle.board_node.proofs.setup_from.Given as goal

abbrev pub invariant-loop-p : goal.invariant-loop-p
invariant-loop-p l = (vl : List ℕ) → SetupsFrom (property_at l.text l.properties vl) l.first l.to l.p
