use Rattle.sgf.proofs.Shaped.{shape-unknown, shape-go}
use Rattle.sgf.proofs.shape_in.Goals as goal

pub returns-then-not-rule : goal.returns-then-not-rule
returns-then-not-rule c = shape-unknown c.args.rule _ c.if-not-rule.true

pub returns : goal.returns
returns c = shape-go c.args.rule _ c.if-not-rule.false c.shape_of.ensures
