use Rattle.lists.proofs.Prelude.{arith}
use Rattle.season_totals.proofs.Chain.{wrote_then}
use Rattle.season_totals.proofs.put_name.Goals as goal

pub returns : goal.returns
returns c = wrote_then (omega (arith, c.well_formed)) c.put_byte-a.ensures (λ h. wrote_then h c.put_bytes-b.ensures (λ k. c.put_byte.ensures))
