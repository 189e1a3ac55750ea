use Rattle.lists.proofs.Tests.{or-neither}
use Rattle.serialize.specs.LocalsWalk.{rule_told}
use Rattle.serialize.proofs.Rules.{rule-asked, rule-stays, told-game, type-own}
use Rattle.serialize.proofs.walk.rule_with.Goals as goal

pub returns-then-corners-mends : goal.returns-then-corners-mends
returns-then-corners-mends c = let args = c.args in
    rule-asked (rule_told args.corners args.mends args.text.now args.trees.now args.nodes.now args.properties.now args.values.now) args.nodes.now args.k args.tree args.rule c.if-nodes-k.true c.rule_told.ensures

pub returns-then-nodes-k : goal.returns-then-nodes-k
returns-then-nodes-k c = let args = c.args in
    let neither = or-neither args.corners args.mends c.if-corners-mends.false in
    let own = type-own args.mends args.text.now args.trees.now args.nodes.now args.properties.now args.values.now args.tree neither.1 c.game_at-game.ensures in
    let told = told-game args.mends args.text.now args.trees.now args.nodes.now args.properties.now args.values.now args.tree own neither.0 c.rule_of.ensures in
    rule-asked (rule_told args.corners args.mends args.text.now args.trees.now args.nodes.now args.properties.now args.values.now) args.nodes.now args.k args.tree args.rule c.if-nodes-k.true told

pub returns : goal.returns
returns c = let args = c.args in
    rule-stays (rule_told args.corners args.mends args.text.now args.trees.now args.nodes.now args.properties.now args.values.now) args.nodes.now args.k args.tree args.rule c.if-nodes-k.false
