use Rattle.lists.proofs.Prelude.{ℕ, sym, subst, arith}
use Rattle.lists.proofs.Tests.{same_or}
use Rattle.values.specs.Read.{read_identifier}
use Rattle.parts_props.specs.Props.{identifier_at}
use Rattle.board_node.specs.LocalsSeen.{Idle}
use Rattle.board_node.proofs.idle_rows.Goals as goal

pub loop-p-preserved : goal.loop-p-preserved
loop-p-preserved c = let a = c.args in
    let l = c.loop-p in
    λ q i j. same_or q l.p
    (λ e. subst (λ (z : ℕ). Idle (read_identifier (identifier_at a.text.now a.properties.now z))) (sym e) (c.idle_row.ensures c.if-not-idle_row.false))
    (λ e. l.invariant q i (omega (arith, e)))
