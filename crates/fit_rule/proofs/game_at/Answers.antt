use Rattle.fit_rule.proofs.Ruling.{game-none}
use Rattle.fit_rule.proofs.game_at.Goals as goal

pub returns-then-trees-r : goal.returns-then-trees-r
returns-then-trees-r c = let args = c.args in game-none args.trees.now args.r c.if-trees-r.true
