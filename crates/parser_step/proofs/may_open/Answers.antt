use Rattle.parser_step.proofs.Stacks.{may-empty, may-deep, may_none, may-node}
use Rattle.parser_step.proofs.may_open.Goals as goal

pub returns-then-depth-eq0 : goal.returns-then-depth-eq0
returns-then-depth-eq0 c = may-empty c.args.stack.now _ _ _ c.if-depth-eq0.true

pub returns-then-depth-gt1024 : goal.returns-then-depth-gt1024
returns-then-depth-gt1024 c = may-deep c.args.stack.now _ _ _ c.if-depth-gt1024.true

pub returns-then-x : goal.returns-then-x
returns-then-x c = may_none c.args.stack.now _ _ _ c.if-depth-eq0.false c.if-depth-gt1024.false c.peek-x.ensures c.if-x.true

pub returns : goal.returns
returns c = may-node c.args.stack.now _ _ _ c.if-depth-eq0.false c.if-depth-gt1024.false c.peek-x.ensures c.if-x.false c.wide.ensures
