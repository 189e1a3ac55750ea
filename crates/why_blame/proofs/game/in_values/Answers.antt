use Rattle.why_blame.proofs.Games.{typed_no, typed-number, typed-values}
use Rattle.why_blame.proofs.game.in_values.Goals as goal

pub returns-then-count-eq1 : goal.returns-then-count-eq1
returns-then-count-eq1 c = typed-number c.args.s.now c.args.at c.args.k c.game_values.ensures c.in-Err.is c.count_values-count.ensures c.if-count-eq1.true

pub returns-in-Ok : goal.returns-in-Ok
returns-in-Ok c = typed_no c.args.s.now c.args.at c.args.k c.game_values.ensures c.in-Ok.is

pub returns-else-count-eq1 : goal.returns-else-count-eq1
returns-else-count-eq1 c = typed-values c.args.s.now c.args.at c.args.k c.game_values.ensures c.in-Err.is c.count_values-count.ensures c.if-count-eq1.false
