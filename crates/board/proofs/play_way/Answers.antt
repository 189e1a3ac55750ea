use Rattle.board.proofs.Walking.{root-played, root-refused, next-rises, next-walked, next-stops, walked_all}
use Rattle.board.specs.Answer.{node_properties}
use Rattle.fit_nodes.proofs.Path.{path-le}
use Rattle.lists.proofs.Prelude.{arith, rules}
use Rattle.board.proofs.play_way.Goals as goal

pub play_at-first-requires : goal.play_at-first-requires
play_at-first-requires c = let a = c.args in let w = c.requires.1 in let i = w.inside in let r = w.rows in let l = path-le a.nodes.now a.k a.root w.on in omega arith

pub returns-then-bad : goal.returns-then-bad
returns-then-bad c = let a = c.args in root-refused a.columns a.rows a.nodes.now (node_properties a.text.now a.nodes.now a.properties.now a.values.now) a.k a.root c.requires.1.on c.requires.1.orphan c.start.ensures c.play_at-first.ensures c.if-bad.true c.refuse.ensures

pub play_run-begun-requires : goal.play_run-begun-requires
play_run-begun-requires c = let a = c.args in (c.requires.1, root-played a.columns a.rows a.nodes.now (node_properties a.text.now a.nodes.now a.properties.now a.values.now) a.k a.root c.requires.1.on c.requires.1.orphan c.start.ensures c.play_at-first.ensures c.if-bad.false)

pub loop-at-init : goal.loop-at-init
loop-at-init c = c.play_run-begun.ensures.0

pub play_at-turn-requires : goal.play_at-turn-requires
play_at-turn-requires c = let a = c.args in (next-rises a.columns a.rows a.nodes.now (node_properties a.text.now a.nodes.now a.properties.now a.values.now) a.k c.requires.1 c.loop-at.invariant c.loop-at-test.true c.next_on-at.ensures).2

pub returns-then-off : goal.returns-then-off
returns-then-off c = let a = c.args in next-stops a.columns a.rows a.nodes.now (node_properties a.text.now a.nodes.now a.properties.now a.values.now) a.k c.requires.1 c.loop-at.invariant c.loop-at-test.true c.next_on-at.ensures c.play_at-turn.ensures c.if-off.true c.refuse-then-off.ensures

pub play_run-run-requires : goal.play_run-run-requires
play_run-run-requires c = let a = c.args in (c.requires.1, next-walked a.columns a.rows a.nodes.now (node_properties a.text.now a.nodes.now a.properties.now a.values.now) a.k c.requires.1 c.loop-at.invariant c.loop-at-test.true c.next_on-at.ensures c.play_at-turn.ensures c.if-off.false)

pub loop-at-smaller : goal.loop-at-smaller
loop-at-smaller c = let a = c.args in let x = next-rises a.columns a.rows a.nodes.now (node_properties a.text.now a.nodes.now a.properties.now a.values.now) a.k c.requires.1 c.loop-at.invariant c.loop-at-test.true c.next_on-at.ensures in let u = x.0 in let v = x.1 in let f = c.play_run-run.ensures.1 in omega arith

pub loop-at-preserved : goal.loop-at-preserved
loop-at-preserved c = c.play_run-run.ensures.0

pub overflow_cast-result : goal.overflow_cast-result
overflow_cast-result c = let s = c.requires.0 in let l = s.columns in search rules

pub overflow_cast-result-2 : goal.overflow_cast-result-2
overflow_cast-result-2 c = let s = c.requires.0 in let l = s.rows in search rules

pub returns : goal.returns
returns c = let a = c.args in walked_all a.columns a.rows a.nodes.now (node_properties a.text.now a.nodes.now a.properties.now a.values.now) a.k c.loop-at.invariant c.loop-at-test.false
