use Rattle.lists.proofs.Prelude.{ℕ, ◌+◌, ◌-◌, ap, arith}
use Rattle.tables.specs.Each.{tabulate}
use Rattle.parts_props.specs.Props.{property_at}
use Rattle.board_node.specs.Node.{all_moves}
use Rattle.board_node.specs.Answer.{position_of}
use Rattle.board_node.proofs.Turning.{both-stop, then-stop, both_right, both-steps}
use Rattle.board_node.proofs.Nodes.{node-refused, node-played}
use Rattle.board_node.proofs.play_upon.Goals as goal

pub set_all-set-requires : goal.set_all-set-requires
set_all-set-requires c = λ l. let e = c.row_count.ensures in omega arith

pub returns-then-bad : goal.returns-then-bad
returns-then-bad c = node-refused c.args.columns c.args.rows c.args.text.now c.args.properties.now c.args.values.now c.args.first c.args.count (c.args.first + c.row_count.result) (ap (λ (n : ℕ). c.args.first + n) c.row_count.ensures) (position_of c.args.stones.now c.args.state) _ (both-stop c.args.columns c.args.rows (all_moves c.args.columns c.args.rows (tabulate (property_at c.args.text.now c.args.properties.now c.args.values.now) c.args.first ((c.args.first + c.row_count.result) - c.args.first))) c.set_all-set.ensures.turn c.if-bad.true) c.refuse.ensures

pub play_rows-played-requires : goal.play_rows-played-requires
play_rows-played-requires c = λ l. let e = c.row_count.ensures in omega arith

pub returns-then-off : goal.returns-then-off
returns-then-off c = node-refused c.args.columns c.args.rows c.args.text.now c.args.properties.now c.args.values.now c.args.first c.args.count (c.args.first + c.row_count.result) (ap (λ (n : ℕ). c.args.first + n) c.row_count.ensures) (position_of c.args.stones.now c.args.state) _ (then-stop c.args.columns c.args.rows (all_moves c.args.columns c.args.rows (tabulate (property_at c.args.text.now c.args.properties.now c.args.values.now) c.args.first ((c.args.first + c.row_count.result) - c.args.first))) c.set_all-set.ensures.turn c.if-bad.false (c.play_rows-played.ensures _) c.if-off.true) c.refuse-then-off.ensures

pub returns : goal.returns
returns c = node-played c.args.columns c.args.rows c.args.text.now c.args.properties.now c.args.values.now c.args.first c.args.count (c.args.first + c.row_count.result) (ap (λ (n : ℕ). c.args.first + n) c.row_count.ensures) (position_of c.args.stones.now c.args.state) _ (both_right c.args.columns c.args.rows (all_moves c.args.columns c.args.rows (tabulate (property_at c.args.text.now c.args.properties.now c.args.values.now) c.args.first ((c.args.first + c.row_count.result) - c.args.first))) c.set_all-set.ensures.turn c.if-bad.false (c.play_rows-played.ensures _) c.if-off.false) c.if-off.false (both-steps c.args.columns c.args.rows (all_moves c.args.columns c.args.rows (tabulate (property_at c.args.text.now c.args.properties.now c.args.values.now) c.args.first ((c.args.first + c.row_count.result) - c.args.first))) c.set_all-set.ensures.turn c.if-bad.false (c.play_rows-played.ensures _) c.if-off.false)
