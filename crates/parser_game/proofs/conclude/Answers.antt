use Rattle.lists.proofs.Prelude.{sym, ap, ◌∙◌, Bool}
use Rattle.lexer.specs.Step.{vals_at}
use Rattle.parser_game.specs.LocalsGame.{type_of, concluded}
use Rattle.parser_game.proofs.conclude.Goals as goal

pub returns-then-found : goal.returns-then-found
returns-then-found c = c.game_values.ensures ∙ (ap (λ (z : Bool). type_of (concluded z (vals_at c.args.s.now c.args.k))) (sym c.if-found.true))

pub returns : goal.returns
returns c = (ap (λ (z : Bool). type_of (concluded z (vals_at c.args.s.now c.args.k))) (sym c.if-found.false))
