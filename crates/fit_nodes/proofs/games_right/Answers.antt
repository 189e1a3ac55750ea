use Rattle.lists.proofs.Prelude.{arith, le-leb, lt-leb}
use Rattle.tables.proofs.Each.{each_none, each_more, each-end, each-fails}
use Rattle.fit_nodes.proofs.games_right.Goals as goal

pub loop-k-init : goal.loop-k-init
loop-k-init c = each_none _

pub returns-then-trees-k-gt1 : goal.returns-then-trees-k-gt1
returns-then-trees-k-gt1 c = each-fails _ _ _ c.loop-k-test.true (lt-leb _ _ c.if-trees-k-gt1.true)

pub loop-k-preserved : goal.loop-k-preserved
loop-k-preserved c = each_more _ _ c.loop-k.invariant (le-leb _ _ c.if-trees-k-gt1.false)

pub returns : goal.returns
returns c = each-end _ _ _ (omega arith) c.loop-k-test.false c.loop-k.invariant
