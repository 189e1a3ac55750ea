use Rattle.lists.proofs.Prelude.{arith}
use Rattle.parts_props.specs.Props.{properties_at}
use Rattle.board_node.proofs.Seen.{node-unseen, node_seen}
use Rattle.board_node.proofs.seen_move.Goals as goal

pub returns-then-all-first : goal.returns-then-all-first
returns-then-all-first c = let a = c.args in node-unseen a.columns a.rows (properties_at a.text.now a.properties.now a.values.now a.first a.count) c.unseen.ensures

pub returns-then-all-first-2 : goal.returns-then-all-first-2
returns-then-all-first-2 c = let a = c.args in node-unseen a.columns a.rows (properties_at a.text.now a.properties.now a.values.now a.first a.count) c.unseen-then-all-first-2.ensures

pub returns-then-count-eq0 : goal.returns-then-count-eq0
returns-then-count-eq0 c = let a = c.args in node-unseen a.columns a.rows (properties_at a.text.now a.properties.now a.values.now a.first a.count) c.unseen-then-count-eq0.ensures

pub returns-then-not-idle_rows : goal.returns-then-not-idle_rows
returns-then-not-idle_rows c = let a = c.args in node-unseen a.columns a.rows (properties_at a.text.now a.properties.now a.values.now a.first a.count) c.unseen-then-not-idle_rows.ensures

pub returns : goal.returns
returns c = let a = c.args in
    node_seen a.columns a.rows a.text.now a.properties.now a.values.now a.first a.count (omega (arith, c.if-count-eq0.false)) (omega (arith, c.if-all-first-2.false, c.if-all-first.false))
    (c.idle_rows.ensures c.if-not-idle_rows.false) c.seen_row.ensures
