use Rattle.season_totals.specs.Report.{totals_text}
use Rattle.lists.proofs.Prelude.{arith}
use Rattle.season_totals.proofs.Chain.{wrote_then}
use Rattle.season_totals.proofs.put_totals.Goals as goal

pub returns : goal.returns
unfolding totals_text
returns c = wrote_then (omega (arith, c.well_formed)) c.put_sums-a.ensures (λ h1. wrote_then h1 c.put_bytes-b.ensures (λ h2. wrote_then h2 c.put_column-c.ensures (λ h3. wrote_then h3 c.put_byte-d.ensures (λ h4. c.put_numbers.ensures))))
