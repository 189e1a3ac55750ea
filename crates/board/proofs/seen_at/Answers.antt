use Rattle.board.proofs.Runs.{seen-row}
use Rattle.board.proofs.seen_at.Goals as goal

pub returns : goal.returns
returns c = let a = c.args in seen-row a.columns a.rows a.text.now a.nodes.now a.properties.now a.values.now a.at c.wide-first.ensures c.wide-count.ensures c.seen_move.ensures
