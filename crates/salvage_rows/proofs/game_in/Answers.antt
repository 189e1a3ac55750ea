use Rattle.parts.specs.Rows.{values_at}
use Rattle.parser_game.specs.LocalsGame.{type_of}
use Rattle.salvage_rows.specs.LocalsGM.{game_of_values}
use Rattle.lists.proofs.Prelude.{ℕ, ap₂, ◌+◌, ◌∙◌, ap}
use Rattle.salvage_rows.proofs.Searching.{game-absent, game-several, game-single}
use Rattle.salvage_rows.proofs.game_in.Goals as goal

pub returns-then-to-p : goal.returns-then-to-p
returns-then-to-p c = let a = c.args in
    let f = c.next_gm-p in
    game-absent a.text.now a.properties.now a.values.now a.first a.count _ f.result (ap (λ n. a.first + n) c.row_count.ensures) f.ensures c.if-to-p.true

pub returns-then-q-to : goal.returns-then-q-to
returns-then-q-to c = let a = c.args in
    let f = c.next_gm-p in
    let g = c.next_gm-q in
    game-several a.text.now a.properties.now a.values.now a.first a.count _ f.result (ap (λ n. a.first + n) c.row_count.ensures) f.ensures c.if-to-p.false g.result g.ensures c.if-q-to.true

pub returns : goal.returns
returns c = let a0 = c.args in
    let f = c.next_gm-p in
    let g = c.next_gm-q in
    c.one_game.ensures ∙ ap₂ (λ (a b : ℕ). type_of (game_of_values (values_at a0.text.now a0.values.now a b))) c.wide-start.ensures c.wide-many.ensures ∙ ap type_of (game-single a0.text.now a0.properties.now a0.values.now a0.first a0.count _ f.result (ap (λ n. a0.first + n) c.row_count.ensures) f.ensures c.if-to-p.false g.result g.ensures c.if-q-to.false)
