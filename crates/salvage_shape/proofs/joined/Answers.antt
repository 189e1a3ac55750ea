use Rattle.salvage_shape.proofs.Turns.{joined-new, joined-none, joined-some}
use Rattle.salvage_shape.proofs.joined.Goals as goal

pub returns-then-fresh : goal.returns-then-fresh
returns-then-fresh c = joined-new _ c.if-fresh.true

pub returns-then-c-eq0 : goal.returns-then-c-eq0
returns-then-c-eq0 c = joined-none c.args.c c.if-fresh.false c.if-c-eq0.true

pub returns : goal.returns
returns c = joined-some c.args.c c.if-fresh.false c.if-c-eq0.false c.sum-plus.ensures c.sum.ensures c.max.ensures
