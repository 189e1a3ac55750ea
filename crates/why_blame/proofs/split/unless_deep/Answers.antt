use Rattle.lists.proofs.Prelude.{lt-ltb, le-ltb, pick, Bool, sym, ap}
use Rattle.tables.specs.Numbers.{depth_limit}
use Rattle.why_blame.specs.declared.Fact.TheVariants.{TooDeep}
use Rattle.why_blame.proofs.split.unless_deep.Goals as goal
use Rattle.std.specs.Prelude.{Ok, Err}
use Rattle.tables.specs.Refusals.{refusal}

pub returns-then-deepest-gt-DEPTH_LIMIT : goal.returns-then-deepest-gt-DEPTH_LIMIT
returns-then-deepest-gt-DEPTH_LIMIT c = sym (ap (λ (z : Bool). pick z (Err (refusal TooDeep c.args.deep)) (Ok (c.args.count, c.args.place))) (lt-ltb depth_limit c.args.deepest c.if-deepest-gt-DEPTH_LIMIT.true))

pub returns : goal.returns
returns c = sym (ap (λ (z : Bool). pick z (Err (refusal TooDeep c.args.deep)) (Ok (c.args.count, c.args.place))) (le-ltb depth_limit c.args.deepest c.if-deepest-gt-DEPTH_LIMIT.false))
