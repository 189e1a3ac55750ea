use Rattle.lists.proofs.Prelude.{refl}
use Rattle.why.proofs.Props.{top-none, top-is}
use Rattle.why.proofs.tree.top.Goals as goal

pub returns-then-depth-eq0 : goal.returns-then-depth-eq0
returns-then-depth-eq0 c = top-none c.args.stack.now c.args.depth c.if-depth-eq0.true

pub returns : goal.returns
returns c = top-is c.args.stack.now c.args.depth c.if-depth-eq0.false refl
