use Rattle.parts_props.specs.Props.{property_at}
use Rattle.board_node.proofs.Seen.{row-unseen, row_seen}
use Rattle.board_node.proofs.seen_row.Goals as goal

pub returns-then-colour-lt1 : goal.returns-then-colour-lt1
returns-then-colour-lt1 c = let a = c.args in row-unseen a.columns a.rows (property_at a.text.now a.properties.now a.values.now a.p) c.unseen.ensures

pub returns-then-many-ne1 : goal.returns-then-many-ne1
returns-then-many-ne1 c = let a = c.args in row-unseen a.columns a.rows (property_at a.text.now a.properties.now a.values.now a.p) c.unseen-then-many-ne1.ensures

pub returns : goal.returns
returns c = let a = c.args in row_seen a.columns a.rows a.text.now a.properties.now a.values.now a.p c.if-colour-lt1.false (c.seen_mover-colour.ensures c.if-colour-lt1.false) c.wide-start.ensures c.wide-many.ensures c.if-many-ne1.false c.seen_value.ensures
