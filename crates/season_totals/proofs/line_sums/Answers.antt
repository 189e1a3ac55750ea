use Rattle.lists.proofs.Prelude.{sym, ap}
use Rattle.season_totals.specs.Totals.{line_sums}
use Rattle.season_totals.proofs.Sums.{refused-beyond}
use Rattle.season_totals.proofs.line_sums.Goals as goal

pub returns-then-number-lt32 : goal.returns-then-number-lt32
returns-then-number-lt32 c = sym (ap line_sums c.in-Refused.is)

pub returns-else-number-lt32 : goal.returns-else-number-lt32
returns-else-number-lt32 c = refused-beyond c.args.line c.in-Refused.number c.in-Refused.is c.if-number-lt32.false

pub returns-in-Counted : goal.returns-in-Counted
returns-in-Counted c = sym (ap line_sums c.in-Counted.is)
