use Rattle.salvage_list.proofs.Puts.{kind-two, kind-four, kind-none, kind-three}
use Rattle.salvage_list.proofs.walk.kind_of.Goals as goal

pub returns-then-reads_as : goal.returns-then-reads_as
returns-then-reads_as c = kind-two c.args.bad c.args.name.now c.reads_as.ensures c.if-reads_as.true

pub returns-then-bad-reads_as : goal.returns-then-bad-reads_as
returns-then-bad-reads_as c = kind-four c.args.bad c.args.name.now c.reads_as.ensures c.if-reads_as.false c.reads_as-2.ensures c.if-bad-reads_as.true

pub returns-then-reads_as-2 : goal.returns-then-reads_as-2
returns-then-reads_as-2 c = kind-none c.args.bad c.args.name.now c.reads_as.ensures c.if-reads_as.false c.reads_as-2.ensures c.if-bad-reads_as.false c.reads_as-3.ensures c.if-reads_as-2.true

pub returns : goal.returns
returns c = kind-three c.args.bad c.args.name.now c.reads_as.ensures c.if-reads_as.false c.reads_as-2.ensures c.if-bad-reads_as.false c.reads_as-3.ensures c.if-reads_as-2.false
