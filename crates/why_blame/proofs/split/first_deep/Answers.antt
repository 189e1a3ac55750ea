use Rattle.lists.proofs.Prelude.{ltb, lt-ltb, le-ltb, pick, Bool, sym, ap, ◌∙◌}
use Rattle.tables.specs.Numbers.{depth_limit}
use Rattle.why_blame.proofs.split.first_deep.Goals as goal

pub returns-then-deepest-gt-DEPTH_LIMIT : goal.returns-then-deepest-gt-DEPTH_LIMIT
returns-then-deepest-gt-DEPTH_LIMIT c = sym (ap (λ (z : Bool). pick z c.args.deep (pick (ltb depth_limit c.args.depth) c.args.here c.args.deep)) (lt-ltb depth_limit c.args.deepest c.if-deepest-gt-DEPTH_LIMIT.true))

pub returns-then-depth-gt-DEPTH_LIMIT : goal.returns-then-depth-gt-DEPTH_LIMIT
returns-then-depth-gt-DEPTH_LIMIT c = sym (ap (λ (z : Bool). pick z c.args.deep (pick (ltb depth_limit c.args.depth) c.args.here c.args.deep)) (le-ltb depth_limit c.args.deepest c.if-deepest-gt-DEPTH_LIMIT.false) ∙ ap (λ (z : Bool). pick z c.args.here c.args.deep) (lt-ltb depth_limit c.args.depth c.if-depth-gt-DEPTH_LIMIT.true))

pub returns-else-depth-gt-DEPTH_LIMIT : goal.returns-else-depth-gt-DEPTH_LIMIT
returns-else-depth-gt-DEPTH_LIMIT c = sym (ap (λ (z : Bool). pick z c.args.deep (pick (ltb depth_limit c.args.depth) c.args.here c.args.deep)) (le-ltb depth_limit c.args.deepest c.if-deepest-gt-DEPTH_LIMIT.false) ∙ ap (λ (z : Bool). pick z c.args.here c.args.deep) (le-ltb depth_limit c.args.depth c.if-depth-gt-DEPTH_LIMIT.false))
