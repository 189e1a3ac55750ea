use Rattle.lists.proofs.Prelude.{ℕ, List, ap, ◌∙◌}
use Rattle.values.specs.Read.{read_value}
use Rattle.parser.specs.Game.{game_of}
use Rattle.parser_game.specs.LocalsGame.{type_of}
use Rattle.salvage_rows.proofs.Searching.{values-wrong, values_one}
use Rattle.salvage_rows.proofs.one_game.Goals as goal

pub returns-then-count-ne1 : goal.returns-then-count-ne1
returns-then-count-ne1 c = let a = c.args in
    values-wrong a.text.now a.values.now a.first a.count c.if-count-ne1.true

pub returns : goal.returns
returns c = let a = c.args in
    c.game_of.ensures ∙ ap (λ (z : List ℕ). type_of (game_of (read_value z))) c.value_at-value.ensures ∙ ap type_of (values_one a.text.now a.values.now a.first a.count c.if-count-ne1.false)
