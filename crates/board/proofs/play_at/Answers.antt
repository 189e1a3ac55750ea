use Rattle.board.proofs.Next.{at-node}
use Rattle.board.proofs.play_at.Goals as goal

pub returns : goal.returns
returns c = at-node c.args.columns c.args.rows c.args.text.now c.args.nodes.now c.args.properties.now c.args.values.now c.args.at c.wide-first.ensures c.wide-count.ensures c.play_upon.ensures
