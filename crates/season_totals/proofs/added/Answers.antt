use Rattle.lists.proofs.Prelude.{arith, ◌∙◌}
use Rattle.season_totals.proofs.Sums.{adding-first, adding-next, adding-over, adding-end}
use Rattle.season_totals.proofs.added.Goals as goal

pub loop-i-init : goal.loop-i-init
loop-i-init c = let a = c.args in adding-first a.left.sums a.right.sums (omega (arith, c.well_formed))

pub returns-in_err-sums : goal.returns-in_err-sums
returns-in_err-sums c = let a = c.args in
    let f = c.in_err-sums.ensures in
    c.from_residual.ensures ∙ adding-over a.left.sums a.right.sums c.loop-i.invariant c.loop-i-test.true (omega arith)

pub loop-i-preserved : goal.loop-i-preserved
loop-i-preserved c = let a = c.args in
    let s = c.in_ok-sums.ensures in
    adding-next a.left.sums a.right.sums c.loop-i.invariant c.loop-i-test.true s.0 s.1

pub returns : goal.returns
returns c = let a = c.args in adding-end a.left.sums a.right.sums c.loop-i.invariant c.loop-i-test.false
