use Rattle.lists.proofs.Prelude.{arith}
use Rattle.store_bytes.proofs.Written.{wrote-more}
use Rattle.tool.proofs.put_count.Goals as goal

pub returns : goal.returns
returns c = let good = c.well_formed in wrote-more (omega (arith, good)) c.put_bytes-next.ensures c.put_decimal.ensures
