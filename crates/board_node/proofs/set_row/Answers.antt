use Rattle.board_node.proofs.Moves.{setups-none, setups-are}
use Rattle.board_node.proofs.Turning.{turn-none, turn-same}
use Rattle.board_node.specs.Node.{setup_colour}
use Rattle.parts_props.specs.Props.{property_at}
use Rattle.parts.specs.Rows.{values_at}
use Rattle.go.specs.declared.value.GoValue.{GoValue}
use Rattle.go.specs.Value.{go_value}
use Rattle.values.specs.Read.{read_identifier}
use Rattle.lists.proofs.Prelude.{ℕ, List, ap, ap₂, ◌∙◌, arith}
use Rattle.board_node.proofs.set_row.Goals as goal

pub returns-then-colour-gt2 : goal.returns-then-colour-gt2
returns-then-colour-gt2 c = let a = c.args in
    turn-same a.columns a.rows (setups-none a.columns a.rows (property_at a.text.now a.properties.now a.values.now a.p) (let e = (c.setup_colour-colour.ensures ∙ ap (λ (z : List ℕ). setup_colour (read_identifier z)) c.identifier_at-identifier.ensures) in omega (arith, c.if-colour-gt2.true))) (turn-none a.columns a.rows a.seen.now a.stones.now a.state)

pub returns : goal.returns
returns c = let a = c.args in
    let i = c.identifier_at-identifier in
    turn-same a.columns a.rows (setups-are a.columns a.rows (property_at a.text.now a.properties.now a.values.now a.p) (c.setup_colour-colour.ensures ∙ ap (λ (z : List ℕ). setup_colour (read_identifier z)) i.ensures) c.if-colour-gt2.false (ap (λ (g : GoValue). g.marks) (c.go_value-go.ensures ∙ (ap (λ (z : List ℕ). go_value 0 (read_identifier z) (values_at a.text.now a.values.now c.wide-start.result c.wide-many.result)) i.ensures ∙ ap₂ (λ (y z : ℕ). go_value 0 (property_at a.text.now a.properties.now a.values.now a.p).name (values_at a.text.now a.values.now y z)) c.wide-start.ensures c.wide-many.ensures)))) c.set_places.ensures
