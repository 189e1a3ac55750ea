use Rattle.lists.proofs.Prelude.{ℕ, List, sym, subst, true≢false, arith}
use Rattle.values.specs.Read.{read_identifier}
use Rattle.board_node.specs.LocalsSeen.{Idle}
use Rattle.board_node.proofs.Names.{name-one, name-two}
use Rattle.board_node.proofs.idle_row.Goals as goal

pub returns-then-end-at : goal.returns-then-end-at
returns-then-end-at c = λ e. absurd (true≢false (sym e))

pub returns-then-text-end : goal.returns-then-text-end
returns-then-text-end c = λ e. absurd (true≢false (sym e))

pub returns-then-end-at-eq2 : goal.returns-then-end-at-eq2
returns-then-end-at-eq2 c = λ e.
    let a = c.args in
    subst (λ (z : List ℕ). Idle (read_identifier z))
    (name-two a.text.now a.properties.now a.p c.wide-at.ensures c.wide-end.ensures c.if-end-at-eq2.true c.if-text-end.false c.requires)
    (c.idle_pair.ensures e)

pub returns-then-end-at-ne1 : goal.returns-then-end-at-ne1
returns-then-end-at-ne1 c = λ e. absurd (true≢false (sym e))

pub returns : goal.returns
returns c = λ e.
    let a = c.args in
    subst (λ (z : List ℕ). Idle (read_identifier z))
    (name-one a.text.now a.properties.now a.p c.wide-at.ensures c.wide-end.ensures c.if-end-at-ne1.false (omega (arith, c.if-text-end.false, c.if-end-at.false)) c.requires)
    (c.idle_letter.ensures e)
