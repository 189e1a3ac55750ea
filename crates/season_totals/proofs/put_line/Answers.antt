use Rattle.season_totals.proofs.Texts.{line-unread, line_refused, line-counted}
use Rattle.lists.proofs.Prelude.{arith}
use Rattle.season_totals.proofs.Chain.{wrote_then}
use Rattle.season_totals.proofs.put_line.Goals as goal

pub returns-in-Unread : goal.returns-in-Unread
returns-in-Unread c = let a = c.args in line-unread a.line a.name.now c.in-Unread.is (wrote_then (omega (arith, c.well_formed)) c.put_bytes-a.ensures (λ h. c.put_name.ensures))

pub returns-in-Refused : goal.returns-in-Refused
returns-in-Refused c = let a = c.args in line_refused a.line a.name.now c.in-Refused.number c.in-Refused.is (wrote_then (omega (arith, c.well_formed)) c.put_decimal-a.ensures (λ h1. wrote_then h1 c.put_bytes-b.ensures (λ h2. c.put_name-in-Refused.ensures)))

pub returns-in-Counted : goal.returns-in-Counted
returns-in-Counted c = let a = c.args in line-counted a.line a.name.now c.in-Counted.tally c.in-Counted.tag c.in-Counted.is (wrote_then (omega (arith, c.well_formed)) c.put_bytes-a-in-Counted.ensures (λ h1. wrote_then h1 c.put_tally-b.ensures (λ h2. wrote_then h2 c.put_byte-c.ensures (λ h3. wrote_then h3 c.put_hex-d.ensures (λ h4. c.put_name-in-Counted.ensures)))))
