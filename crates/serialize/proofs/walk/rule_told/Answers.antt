use Rattle.serialize.proofs.Rules.{told-asked, told-game}
use Rattle.serialize.proofs.walk.rule_told.Goals as goal

pub returns-then-corners : goal.returns-then-corners
returns-then-corners c = let args = c.args in
    told-asked args.mends args.text.now args.trees.now args.nodes.now args.properties.now args.values.now args.r c.type_told-game.ensures c.if-corners.true c.size_at-size.ensures c.rule_of.ensures

pub returns : goal.returns
returns c = let args = c.args in
    told-game args.mends args.text.now args.trees.now args.nodes.now args.properties.now args.values.now args.r c.type_told-game.ensures c.if-corners.false c.rule_of-2.ensures
