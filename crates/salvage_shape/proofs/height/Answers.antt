use Rattle.salvage_shape.proofs.Turns.{height-many}
use Rattle.salvage_shape.proofs.height.Goals as goal

pub returns : goal.returns
returns c = height-many _ c.if-kids-eq0.false c.if-kids-eq1.false _ c.sum.ensures
