use Rattle.blocks.proofs.Taking.{row-added}
use Rattle.blocks.proofs.put_row.Goals as goal

pub returns : goal.returns
returns c = row-added c.args.rows.now c.args.count c.wide.result c.args.kind c.args.from c.args.to _ c.counted_on.result c.wide.ensures c.put.ensures c.counted_on.ensures
