use Rattle.board_node.proofs.Moves.{move-none, moves-none, moves-by, move-player}
use Rattle.board_node.proofs.Turning.{turn-none, turn-same}
use Rattle.board_node.specs.Node.{move_colour}
use Rattle.parts_props.specs.Props.{property_at}
use Rattle.parts.specs.Rows.{values_at}
use Rattle.go_shape.specs.declared.Shape.TheVariants.{OneMove}
use Rattle.go.specs.Value.{value_by}
use Rattle.values.specs.Read.{read_identifier}
use Rattle.lists.proofs.Prelude.{ℕ, List, sym, ap, ap₂, ◌∙◌, arith}
use borrow.Enum.Refused.{opened}
use Rattle.board_node.proofs.play_row.Goals as goal

pub returns-then-colour-lt1 : goal.returns-then-colour-lt1
returns-then-colour-lt1 c = let a = c.args in
    λ m. turn-same a.columns a.rows (moves-none a.columns a.rows (property_at a.text.now a.properties.now a.values.now a.p) (let e = (c.move_colour-colour.ensures ∙ ap (λ (z : List ℕ). move_colour (read_identifier z)) c.identifier_at-identifier.ensures) in omega (arith, c.if-colour-lt1.true))) (turn-none a.columns a.rows m a.stones.now a.state)

pub returns-in_default : goal.returns-in_default
returns-in_default c = let a = c.args in
    λ m. turn-same a.columns a.rows (move-none a.columns a.rows c.move_colour-colour.result _ (opened c.in_default.in_default-own.keys2) ∙ moves-by a.columns a.rows (property_at a.text.now a.properties.now a.values.now a.p) (c.move_colour-colour.ensures ∙ ap (λ (z : List ℕ). move_colour (read_identifier z)) c.identifier_at-identifier.ensures) c.if-colour-lt1.false (c.value_by-value.ensures ∙ ap₂ (λ (y z : ℕ). (value_by 2 OneMove (values_at a.text.now a.values.now y z)).value) c.wide-start.ensures c.wide-many.ensures)) (turn-none a.columns a.rows m a.stones.now a.state)

pub play_move-requires : goal.play_move-requires
play_move-requires c = move-player (read_identifier c.identifier_at-identifier.result.now) c.move_colour-colour.ensures c.if-colour-lt1.false

pub returns : goal.returns
returns c = let a = c.args in
    λ m. turn-same a.columns a.rows (moves-by a.columns a.rows (property_at a.text.now a.properties.now a.values.now a.p) (c.move_colour-colour.ensures ∙ ap (λ (z : List ℕ). move_colour (read_identifier z)) c.identifier_at-identifier.ensures) c.if-colour-lt1.false (sym c.in-Move.is ∙ (c.value_by-value.ensures ∙ ap₂ (λ (y z : ℕ). (value_by 2 OneMove (values_at a.text.now a.values.now y z)).value) c.wide-start.ensures c.wide-many.ensures))) (c.play_move.ensures m)
