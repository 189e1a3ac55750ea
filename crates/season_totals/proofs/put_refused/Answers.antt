use Rattle.season_totals.proofs.Texts.{count_none, count-some}
use Rattle.lists.proofs.Prelude.{arith}
use Rattle.season_totals.proofs.Chain.{wrote_then}
use Rattle.season_totals.proofs.put_refused.Goals as goal

pub returns-then-count-eq0 : goal.returns-then-count-eq0
returns-then-count-eq0 c = let a = c.args in count_none a.number a.count a.out.now a.at (omega arith) c.if-count-eq0.true

pub returns : goal.returns
returns c = let a = c.args in count-some a.number a.count c.if-count-eq0.false (wrote_then (omega (arith, c.well_formed)) c.put_bytes-a.ensures (λ h1. wrote_then h1 c.put_column-b.ensures (λ h2. wrote_then h2 c.put_column-c.ensures (λ h3. c.put_byte.ensures))))
