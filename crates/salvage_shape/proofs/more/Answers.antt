use Rattle.salvage_shape.proofs.Turns.{more-many}
use Rattle.salvage_shape.proofs.more.Goals as goal

pub returns : goal.returns
returns c = more-many _ c.if-kids-eq0.false c.if-kids-eq1.false
