use Rattle.parser.specs.Game.{game_vals}
use Rattle.lexer.specs.Step.{vals_at}
use Rattle.parser_census.proofs.Modes.{type-refused, type-go, type-other}
use Rattle.parser_census.proofs.on_type.Goals as goal

pub returns-in_default : goal.returns-in_default
returns-in_default c = type-refused (game_vals (vals_at c.args.s.now c.args.k)) c.game_values.ensures c.in_default.is

pub returns-then-game-eq0 : goal.returns-then-game-eq0
returns-then-game-eq0 c = type-go (game_vals (vals_at c.args.s.now c.args.k)) c.game_values.ensures c.in-Ok.is c.if-game-eq0.true

pub returns : goal.returns
returns c = type-other (game_vals (vals_at c.args.s.now c.args.k)) c.game_values.ensures c.in-Ok.is c.if-game-eq0.false
