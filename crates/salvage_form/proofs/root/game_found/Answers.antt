use Rattle.lists.proofs.Prelude.{Bool, sym, ap, ◌∙◌, pick}
use Rattle.lexer.specs.Step.{vals_at}
use Rattle.parser.specs.Game.{game_vals}
use Rattle.parser_game.specs.LocalsGame.{type_of}
use Rattle.salvage_form.proofs.root.game_found.Goals as goal
use Rattle.std.specs.Prelude.{Ok}

pub returns-then-found : goal.returns-then-found
returns-then-found c = c.game_values.ensures ∙ ap (λ (b : Bool). pick b (type_of (game_vals (vals_at c.args.s.now c.args.k))) (Ok 0)) (sym c.if-found.true)

pub returns : goal.returns
returns c = ap (λ (b : Bool). pick b (type_of (game_vals (vals_at c.args.s.now c.args.k))) (Ok 0)) (sym c.if-found.false)
