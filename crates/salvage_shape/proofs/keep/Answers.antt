use Rattle.salvage_shape.proofs.Turns.{kept_put}
use Rattle.salvage_shape.proofs.keep.Goals as goal

pub overflow_sub-d : goal.overflow_sub-d
overflow_sub-d c = c.requires.1 c.if-fresh.true

pub returns-then-fresh : goal.returns-then-fresh
returns-then-fresh c = kept_put c.args.cells.now c.args.depth c.args.c c.if-fresh.true
