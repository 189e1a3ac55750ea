use Rattle.salvage_shape.proofs.Turns.{ended-none, ended_some}
use Rattle.salvage_shape.proofs.ended.Goals as goal

pub returns-then-e-eq0 : goal.returns-then-e-eq0
returns-then-e-eq0 c = ended-none c.args.c c.args.e c.if-fresh.false c.chain_height-h.ensures c.if-e-eq0.true

pub returns : goal.returns
returns c = ended_some c.args.c c.args.e c.if-fresh.false c.chain_height-h.ensures c.if-e-eq0.false c.max.ensures
