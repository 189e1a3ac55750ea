use Rattle.tables.proofs.Cases.{passed, refused}
use Rattle.tables.proofs.Each.{each_none, each_more, each-fails}
use Rattle.fit_spans.proofs.Scans.{value-is}
use Rattle.fit_spans.proofs.values_right.Goals as goal

pub loop-k-init : goal.loop-k-init
loop-k-init c = each_none _

pub returns-then-not-is_boxed : goal.returns-then-not-is_boxed
returns-then-not-is_boxed c = let a = c.args in let e = value-is a.text.now a.values.now c.loop-k.k c.wide-start.ensures c.wide-end.ensures c.is_boxed.ensures in each-fails _ _ _ c.loop-k-test.true (refused e c.if-not-is_boxed.true-raw)

pub loop-k-preserved : goal.loop-k-preserved
loop-k-preserved c = let a = c.args in
    let e = value-is a.text.now a.values.now c.loop-k.k c.wide-start.ensures c.wide-end.ensures c.is_boxed.ensures in
    each_more _ _ c.loop-k.invariant (passed e c.if-not-is_boxed.false-raw)
