use Rattle.serialize.proofs.Rules.{type-kept, type-own}
use Rattle.serialize.proofs.walk.type_told.Goals as goal

pub returns-then-mends : goal.returns-then-mends
returns-then-mends c = let args = c.args in
    type-kept args.mends args.text.now args.trees.now args.nodes.now args.properties.now args.values.now args.r c.if-mends.true c.kept_type.ensures

pub returns : goal.returns
returns c = let args = c.args in
    type-own args.mends args.text.now args.trees.now args.nodes.now args.properties.now args.values.now args.r c.if-mends.false c.game_at.ensures
