use Rattle.lists.proofs.Prelude.{sym, ap, ◌∙◌}
use Rattle.values.specs.Read.{read_value}
use Rattle.parser.specs.Game.{is_i32}
use Rattle.parser_game.proofs.Variants.{not-bad}
use Rattle.parser_game.proofs.GameValues.{game-bad, game-go, game-unknown}
use borrow.Enum.Refused.{opened}
use Rattle.parser_game.proofs.game_of.Goals as goal

pub returns-then-is_one : goal.returns-then-is_one
returns-then-is_one c = game-go (read_value c.args.v.now) (ap is_i32 (sym c.read_i32.ensures) ∙ not-bad c.read_i32.result (opened c.in_default.in_default-own.keys2)) c.is_one.ensures c.if-is_one.true

pub returns-in_default : goal.returns-in_default
returns-in_default c = game-unknown (read_value c.args.v.now) (ap is_i32 (sym c.read_i32.ensures) ∙ not-bad c.read_i32.result (opened c.in_default.in_default-own.keys2)) c.is_one.ensures c.if-is_one.false

pub returns : goal.returns
returns c = game-bad (read_value c.args.v.now) (sym c.read_i32.ensures ∙ c.in-Bad.is)
