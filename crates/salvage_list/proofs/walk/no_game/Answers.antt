use Rattle.lexer.specs.Step.{vals_at}
use Rattle.parser.specs.Game.{game_vals}
use Rattle.salvage_list.proofs.Gms.{game-is, game-no}
use Rattle.salvage_list.proofs.walk.no_game.Goals as goal

pub returns-in-Ok : goal.returns-in-Ok
returns-in-Ok c = game-is (game_vals (vals_at c.args.s.now c.args.k)) c.game_values.ensures c.in-Ok.is

pub returns-in-Err : goal.returns-in-Err
returns-in-Err c = game-no (game_vals (vals_at c.args.s.now c.args.k)) c.game_values.ensures c.in-Err.is
