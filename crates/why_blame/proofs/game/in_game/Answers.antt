use Rattle.why_blame.proofs.Games.{game-none, game-one, game-two}
use Rattle.why_blame.proofs.game.in_game.Goals as goal

pub returns-in-None : goal.returns-in-None
returns-in-None c = game-none c.args.s.now c.args.from c.behind-second.result c.behind.result c.args.n c.behind-second.ensures.1 c.behind.ensures.1 c.find_gm.result c.find_gm.ensures c.in-None.is

pub returns-in-None-find_gm : goal.returns-in-None-find_gm
returns-in-None-find_gm c = game-one c.args.s.now c.args.from c.behind-second.result c.behind.result c.args.n c.behind-second.ensures.1 c.behind.ensures.1 c.find_gm.result c.find_gm.ensures c.in-Some.is c.find_gm-in-Some.result c.find_gm-in-Some.ensures c.in-None-find_gm.is c.in_values.ensures

pub returns-in-Some-find_gm : goal.returns-in-Some-find_gm
returns-in-Some-find_gm c = game-two c.args.s.now c.args.from c.behind-second.result c.behind.result c.args.n c.behind-second.ensures.1 c.behind.ensures.1 c.find_gm.result c.find_gm.ensures c.in-Some.is c.find_gm-in-Some.result c.find_gm-in-Some.ensures c.in-Some-find_gm.is
