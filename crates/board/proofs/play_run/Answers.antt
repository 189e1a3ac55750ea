use Rattle.lists.proofs.Prelude.{refl, arith}
use Rattle.board.specs.Answer.{node_properties}
use Rattle.board.proofs.Walking.{next-rises, next-walked}
use Rattle.board.proofs.Runs.{seen-node}
use Rattle.board.proofs.play_run.Goals as goal

pub loop-at-init : goal.loop-at-init
loop-at-init c = (c.requires.1, omega arith)

pub returns-then-not-settled : goal.returns-then-not-settled
returns-then-not-settled c = c.loop-at.invariant

pub seen_at-seen-requires : goal.seen_at-seen-requires
seen_at-seen-requires c = let a = c.args in (next-rises a.columns a.rows a.nodes.now (node_properties a.text.now a.nodes.now a.properties.now a.values.now) a.k c.requires.0 c.loop-at.invariant.0 c.loop-at-test.true c.next_on-next.ensures).2

pub returns-then-colour-eq0 : goal.returns-then-colour-eq0
returns-then-colour-eq0 c = c.loop-at.invariant

pub loop-at-smaller : goal.loop-at-smaller
loop-at-smaller c = let a = c.args in let x = next-rises a.columns a.rows a.nodes.now (node_properties a.text.now a.nodes.now a.properties.now a.values.now) a.k c.requires.0 c.loop-at.invariant.0 c.loop-at-test.true c.next_on-next.ensures in let u = x.0 in let v = x.1 in omega arith

pub loop-at-preserved : goal.loop-at-preserved
loop-at-preserved c = let a = c.args in
    let x = next-rises a.columns a.rows a.nodes.now (node_properties a.text.now a.nodes.now a.properties.now a.values.now) a.k c.requires.0 c.loop-at.invariant.0 c.loop-at-test.true c.next_on-next.ensures in
    let u = x.0 in
    let f = c.loop-at.invariant.1 in
    (next-walked a.columns a.rows a.nodes.now (node_properties a.text.now a.nodes.now a.properties.now a.values.now) a.k c.requires.0 c.loop-at.invariant.0 c.loop-at-test.true c.next_on-next.ensures (seen-node a.columns a.rows c.seen_at-seen.ensures c.if-colour-eq0.false c.if-not-settled.false c.play_settled-then.ensures) refl, omega arith)

pub returns : goal.returns
returns c = c.loop-at.invariant
