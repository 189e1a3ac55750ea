use Rattle.lists.proofs.Prelude.{arith}
use Rattle.season_totals.proofs.Texts.{numbering-first, numbering-next, numbering-end}
use Rattle.season_totals.proofs.put_numbers.Goals as goal

pub loop-number-init : goal.loop-number-init
loop-number-init c = let a = c.args in numbering-first a.totals.sums a.out.now a.at (omega arith)

pub loop-number-preserved : goal.loop-number-preserved
loop-number-preserved c = let a = c.args in let l = c.loop-number in numbering-next a.totals.sums a.out.now a.at l.out l.next l.number l.invariant (omega (arith, c.well_formed)) c.loop-number-test.true c.put_refused-next.ensures

pub shape_of-out : goal.shape_of-out
shape_of-out c = c.loop-number.invariant.len

pub returns : goal.returns
returns c = let a = c.args in let l = c.loop-number in numbering-end a.totals.sums a.out.now a.at l.out l.next l.number l.invariant c.loop-number-test.false
