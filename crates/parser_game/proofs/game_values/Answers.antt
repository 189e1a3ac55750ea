use Rattle.lists.proofs.Prelude.{arith, ℕ, sym, ap, ◌∙◌, List, rules}
use Rattle.parser_game.specs.LocalsGame.{type_of}
use Rattle.values.specs.Read.{read_value}
use Rattle.parser.specs.Game.{game_of}
use Rattle.lexer_scan.proofs.Bounds.{value-is}
use Rattle.parser_game.proofs.GameValues.{game-none, game-many, game-one, part-is}
use borrow.Enum.Refused.{opened}
use Rattle.parser_game.proofs.game_values.Goals as goal

pub returns-in_default : goal.returns-in_default
returns-in_default c = game-none c.args.s.now _ c.next_value.ensures (opened c.in_default.in_default-own.keys2)

pub slice_bounds-game_of-count : goal.slice_bounds-game_of-count
slice_bounds-game_of-count c = let w = (value-is c.args.s.now _ _ _ _ (sym c.next_value.ensures ∙ c.in-Value.is)) in omega arith

pub slice_bounds-game_of-start : goal.slice_bounds-game_of-start
slice_bounds-game_of-start c = let w = (value-is c.args.s.now _ _ _ _ (sym c.next_value.ensures ∙ c.in-Value.is)) in search rules

pub slice_bounds-game_of-end : goal.slice_bounds-game_of-end
slice_bounds-game_of-end c = let w = (value-is c.args.s.now _ _ _ _ (sym c.next_value.ensures ∙ c.in-Value.is)) in search rules

pub returns-in_default-next_value : goal.returns-in_default-next_value
returns-in_default-next_value c = let w = (value-is c.args.s.now _ _ _ _ (sym c.next_value.ensures ∙ c.in-Value.is)) in game-one c.args.s.now _ _ _ _ c.next_value.ensures c.in-Value.is c.next_value-2.ensures (opened c.in_default-next_value.in_default-next_value-own.keys2) (c.game_of.ensures ∙ ap (λ (z : List ℕ). type_of (game_of (read_value z))) (part-is c.args.s.now c.in-Value.a c.in-Value.e (omega arith) (omega arith)))

pub returns : goal.returns
returns c = game-many c.args.s.now _ _ _ _ c.next_value.ensures c.in-Value.is _ _ _ c.next_value-2.ensures c.in-Value-next_value.is
