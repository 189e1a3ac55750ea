use Rattle.lists.proofs.Prelude.{◌-◌}
use Rattle.tables.specs.Each.{tabulate}
use Rattle.parts_props.specs.Props.{property_at}
use Rattle.board_node.specs.LocalsTurn.{LeadsOn}
use Rattle.board_node.specs.Node.{all_setups}
use Rattle.board_node.proofs.set_rows.Given as goal

abbrev pub invariant-loop-p : goal.invariant-loop-p
invariant-loop-p l = let f = property_at l.text l.properties l.values in
    LeadsOn l.columns l.rows (all_setups (tabulate f l.first (l.to - l.first))) (all_setups (tabulate f l.p (l.to - l.p)))
    l.initial.seen l.initial.stones l.initial.then l.seen l.stones l.then
