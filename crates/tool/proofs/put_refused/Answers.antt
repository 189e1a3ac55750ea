use Rattle.lists.proofs.Prelude.{arith}
use Rattle.store_bytes.proofs.Written.{wrote-more}
use Rattle.tool.proofs.put_refused.Goals as goal

pub returns : goal.returns
returns c = let good = c.well_formed in wrote-more (omega (arith, good)) c.put_count-next.ensures c.put_count.ensures
