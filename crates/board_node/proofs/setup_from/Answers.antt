use Rattle.lists.proofs.Prelude.{ℕ, List, ap, ◌∙◌, arith}
use Rattle.values.specs.Read.{read_identifier}
use Rattle.parts_props.specs.Props.{property_at}
use Rattle.board_node.specs.Node.{setup_colour}
use Rattle.board_node.proofs.Rows.{from_next}
use Rattle.board_node.proofs.setup_from.Goals as goal

pub loop-p-preserved : goal.loop-p-preserved
loop-p-preserved c = let a = c.args in
    let l = c.loop-p in
    let e = c.setup_colour.ensures ∙ ap (λ (z : List ℕ). setup_colour (read_identifier z)) c.identifier_at-identifier.ensures in
    λ vl. from_next (property_at a.text.now a.properties.now vl) a.first a.to l.p (l.invariant vl) c.loop-p-test.true (omega (arith, e, c.if-setup_colour-lt3.false))
