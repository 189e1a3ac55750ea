use Rattle.salvage_shape.proofs.Kept.{stays-none, stays-bad, stays-good}
use Rattle.salvage_shape.proofs.stays.Goals as goal

pub returns-then-reads_as : goal.returns-then-reads_as
returns-then-reads_as c = stays-none c.args.bad c.args.name.now c.reads_as.ensures c.if-reads_as.true

pub returns-then-bad : goal.returns-then-bad
returns-then-bad c = stays-bad c.args.bad c.args.name.now c.reads_as.ensures c.if-reads_as.false c.if-bad.true c.reads_as-then-bad.ensures

pub returns : goal.returns
returns c = stays-good c.args.bad c.args.name.now c.reads_as.ensures c.if-reads_as.false c.if-bad.false
