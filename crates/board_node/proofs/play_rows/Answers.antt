use Rattle.lists.proofs.Prelude.{◌+◌, ◌-◌}
use Rattle.tables.specs.Each.{tabulate}
use Rattle.parts_props.specs.Props.{property_at}
use Rattle.board_node.specs.Node.{all_moves}
use Rattle.board_node.proofs.Rows.{moves_next, moves-end}
use Rattle.board_node.proofs.Turning.{leads-self, leads-then, leads-stop, leads-end}
use Rattle.board_node.proofs.play_rows.Goals as goal

pub loop-p-init : goal.loop-p-init
loop-p-init c = let a = c.args in
    let f = property_at a.text.now a.properties.now a.values.now in
    λ m. leads-self a.columns a.rows (all_moves a.columns a.rows (tabulate f a.first (a.to - a.first))) m a.stones.now a.state

pub returns-then-turn : goal.returns-then-turn
returns-then-turn c = let a = c.args in
    let l = c.loop-p in
    let f = property_at a.text.now a.properties.now a.values.now in
    let rest = all_moves a.columns a.rows (tabulate f (l.p + 1) (a.to - (l.p + 1))) in
    let here = moves_next f l.p a.to a.columns a.rows c.loop-p-test.true in
    λ m. leads-stop a.columns a.rows rest here (l.invariant m) (c.play_row-turn.ensures m) c.if-turn.true

pub loop-p-preserved : goal.loop-p-preserved
loop-p-preserved c = let a = c.args in
    let l = c.loop-p in
    let f = property_at a.text.now a.properties.now a.values.now in
    let rest = all_moves a.columns a.rows (tabulate f (l.p + 1) (a.to - (l.p + 1))) in
    let here = moves_next f l.p a.to a.columns a.rows c.loop-p-test.true in
    λ m. leads-then a.columns a.rows rest here (l.invariant m) (c.play_row-turn.ensures m) c.if-turn.false

pub returns : goal.returns
returns c = let a = c.args in
    let l = c.loop-p in
    let f = property_at a.text.now a.properties.now a.values.now in
    λ m. leads-end a.columns a.rows (moves-end f l.p a.to a.columns a.rows c.loop-p-test.false) (l.invariant m)
