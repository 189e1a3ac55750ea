use Rattle.lists.proofs.Prelude.{◌+◌, ◌-◌}
use Rattle.tables.specs.Each.{tabulate}
use Rattle.parts_props.specs.Props.{property_at}
use Rattle.board_node.specs.Node.{all_setups}
use Rattle.board_node.proofs.Rows.{setups-next, setups-end}
use Rattle.board_node.proofs.Turning.{leads-then, leads-stop, leads-end}
use Rattle.board_node.proofs.set_rows.Goals as goal

pub returns-then-turn : goal.returns-then-turn
returns-then-turn c = let a = c.args in
    let l = c.loop-p in
    let f = property_at a.text.now a.properties.now a.values.now in
    let rest = all_setups (tabulate f (l.p + 1) (a.to - (l.p + 1))) in
    leads-stop a.columns a.rows rest (setups-next f l.p a.to c.loop-p-test.true) l.invariant c.set_row-turn.ensures c.if-turn.true

pub loop-p-preserved : goal.loop-p-preserved
loop-p-preserved c = let a = c.args in
    let l = c.loop-p in
    let f = property_at a.text.now a.properties.now a.values.now in
    let rest = all_setups (tabulate f (l.p + 1) (a.to - (l.p + 1))) in
    leads-then a.columns a.rows rest (setups-next f l.p a.to c.loop-p-test.true) l.invariant c.set_row-turn.ensures c.if-turn.false

pub returns : goal.returns
returns c = let a = c.args in
    let l = c.loop-p in
    let f = property_at a.text.now a.properties.now a.values.now in
    leads-end a.columns a.rows (setups-end f l.p a.to c.loop-p-test.false) l.invariant
