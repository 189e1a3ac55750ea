use Rattle.lists.proofs.Prelude.{lt-ltb, le-ltb}
use Rattle.parser.proofs.unless_deep.Goals as goal

pub returns-then-deepest-gt-DEPTH_LIMIT : goal.returns-then-deepest-gt-DEPTH_LIMIT
returns-then-deepest-gt-DEPTH_LIMIT c = rw (lt-ltb 1024 c.args.deepest c.if-deepest-gt-DEPTH_LIMIT.true)

pub returns : goal.returns
returns c = rw (le-ltb 1024 c.args.deepest c.if-deepest-gt-DEPTH_LIMIT.false)
