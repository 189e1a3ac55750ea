use Rattle.parts.specs.Rows.{value_at}
use Rattle.board_node.proofs.Seen.{value-unseen, value-seen}
use Rattle.board_node.proofs.seen_value.Goals as goal

pub returns-then-values-v : goal.returns-then-values-v
returns-then-values-v c = let a = c.args in value-unseen a.columns a.rows a.colour (value_at a.text.now a.values.now a.v) c.unseen.ensures

pub returns-then-end-at : goal.returns-then-end-at
returns-then-end-at c = let a = c.args in value-unseen a.columns a.rows a.colour (value_at a.text.now a.values.now a.v) c.unseen-then-end-at.ensures

pub returns-then-end-at-ne2 : goal.returns-then-end-at-ne2
returns-then-end-at-ne2 c = let a = c.args in value-unseen a.columns a.rows a.colour (value_at a.text.now a.values.now a.v) c.unseen-then-end-at-ne2.ensures

pub returns-then-text-end : goal.returns-then-text-end
returns-then-text-end c = let a = c.args in value-unseen a.columns a.rows a.colour (value_at a.text.now a.values.now a.v) c.unseen-then-text-end.ensures

pub returns : goal.returns
returns c = let a = c.args in value-seen a.columns a.rows a.colour a.text.now a.values.now a.v c.wide-at.ensures c.wide-end.ensures c.if-end-at-ne2.false c.if-text-end.false c.if-values-v.false c.seen_point.ensures
