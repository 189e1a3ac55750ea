use Rattle.lists.proofs.Prelude.{Bool, List, ◌-◌}
use Rattle.tables.specs.Each.{tabulate}
use Rattle.parts_props.specs.Props.{property_at}
use Rattle.board_node.specs.LocalsTurn.{LeadsOn}
use Rattle.board_node.specs.Node.{all_moves}
use Rattle.board_node.proofs.play_rows.Given as goal

abbrev pub invariant-loop-p : goal.invariant-loop-p
invariant-loop-p l = let f = property_at l.text l.properties l.values in
    let all = all_moves l.columns l.rows (tabulate f l.first (l.to - l.first)) in
    let rest = all_moves l.columns l.rows (tabulate f l.p (l.to - l.p)) in
    (m : List Bool) → LeadsOn l.columns l.rows all rest m l.initial.stones l.initial.then m l.stones l.then
