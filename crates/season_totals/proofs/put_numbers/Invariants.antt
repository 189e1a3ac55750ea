use Rattle.season_totals.proofs.Texts.{Numbering}
use Rattle.season_totals.proofs.put_numbers.Given as goal

abbrev pub invariant-loop-number : goal.invariant-loop-number
invariant-loop-number l = Numbering l.sums l.initial.out l.at l.out l.next l.number
