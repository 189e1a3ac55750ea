use Rattle.lists.proofs.Prelude.{refl, arith}
use Rattle.store_bytes.proofs.Written.{wrote-is, wrote-length}
use Rattle.serialize.specs.LocalsWalk.{roots_below, rule_told, node_text}
use Rattle.serialize.proofs.Rules.{roots-next, rule-kept, rule-next}
use Rattle.serialize.proofs.Walked.{nodes-up, nodes-above, node-ruled, linked-wrote}
use Rattle.serialize.proofs.Texts.{texts-none, texts-more, texts-end}
use Rattle.serialize.proofs.walk.put_all.Goals as goal

pub loop-k-init : goal.loop-k-init
unfolding roots_below
loop-k-init c = let args = c.args in
    (omega arith, omega arith, refl, (λ l. absurd (omega arith)), texts-none (node_text args.mends args.text.now args.trees.now args.nodes.now args.properties.now args.values.now) args.out.now 0 (omega arith))

pub rule_with-rule-requires : goal.rule_with-rule-requires
rule_with-rule-requires c = omega (arith, c.requires.0.lent, c.loop-k-test.true)

pub roots_with-roots-requires : goal.roots_with-roots-requires
roots_with-roots-requires c = let loop = c.loop-k in
    (omega (arith, c.requires.0.lent, c.loop-k-test.true), loop.invariant.1, loop.invariant.2)

pub put_node-to-requires : goal.put_node-to-requires
put_node-to-requires c = nodes-up c.requires.0 c.loop-k.k c.loop-k-test.true

pub loop-k-preserved : goal.loop-k-preserved
loop-k-preserved c = let args = c.args in
    let loop = c.loop-k in
    let below = c.loop-k-test.true in
    let roots-with = c.roots_with-roots in
    let rule = rule-kept (rule_told args.corners args.mends args.text.now args.trees.now args.nodes.now args.properties.now args.values.now) args.nodes.now loop.k (nodes-up c.requires.0 loop.k below).ruled loop.invariant.2 loop.invariant.3 c.rule_with-rule.ensures in
    (omega (arith, below), omega (arith, roots-with.ensures.1), roots-next args.nodes.now loop.k roots-with.ensures.0, rule-next (rule_told args.corners args.mends args.text.now args.trees.now args.nodes.now args.properties.now args.values.now) args.nodes.now loop.k rule, texts-more (node_text args.mends args.text.now args.trees.now args.nodes.now args.properties.now args.values.now) loop.k (omega (arith, c.well_formed)) loop.invariant.4 (wrote-is (node-ruled args.corners args.mends args.text.now args.trees.now args.nodes.now args.properties.now args.values.now loop.k (λ z. c.requires.1 z loop.k below) rule) c.put_node-to.ensures))

pub put_ends-requires : goal.put_ends-requires
put_ends-requires c = nodes-above c.requires.0

pub shape_of-out : goal.shape_of-out
shape_of-out c = let args = c.args in
    let loop = c.loop-k in
    wrote-length (linked-wrote args.mends args.text.now args.trees.now args.nodes.now args.properties.now args.values.now args.n (omega (arith, c.well_formed)) (texts-end (node_text args.mends args.text.now args.trees.now args.nodes.now args.properties.now args.values.now) loop.k args.n loop.invariant.0 c.loop-k-test.false loop.invariant.4) c.put_ends.ensures)

pub returns : goal.returns
returns c = let args = c.args in
    let loop = c.loop-k in
    linked-wrote args.mends args.text.now args.trees.now args.nodes.now args.properties.now args.values.now args.n (omega (arith, c.well_formed)) (texts-end (node_text args.mends args.text.now args.trees.now args.nodes.now args.properties.now args.values.now) loop.k args.n loop.invariant.0 c.loop-k-test.false loop.invariant.4) c.put_ends.ensures
