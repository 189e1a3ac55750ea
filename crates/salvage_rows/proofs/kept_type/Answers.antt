use Rattle.parts_props.specs.Props.{properties_at}
use Rattle.salvage_rows.specs.LocalsGM.{game_in}
use Rattle.salvage_rows.proofs.Kept.{type-told, none_told, kept-no-tree, kept-no-node, kept_there}
use Rattle.salvage_rows.proofs.kept_type.Goals as goal

pub returns-then-trees-r : goal.returns-then-trees-r
returns-then-trees-r c = let args = c.args in
    kept-no-tree args.text.now args.trees.now args.nodes.now args.properties.now args.values.now args.r c.if-trees-r.true

pub returns-then-nodes-root : goal.returns-then-nodes-root
returns-then-nodes-root c = let args = c.args in
    kept-no-node args.text.now args.trees.now args.nodes.now args.properties.now args.values.now args.r c.wide-root.ensures c.if-nodes-root.true

pub returns-in-Ok : goal.returns-in-Ok
returns-in-Ok c = let args = c.args in
    kept_there args.text.now args.trees.now args.nodes.now args.properties.now args.values.now args.r c.if-trees-r.false c.wide-root.ensures c.if-nodes-root.false c.wide-first.ensures c.wide-count.ensures (type-told (game_in (properties_at args.text.now args.properties.now args.values.now c.wide-first.result c.wide-count.result)) c.game_in.ensures c.in-Ok.is)

pub returns-in-Err : goal.returns-in-Err
returns-in-Err c = let args = c.args in
    kept_there args.text.now args.trees.now args.nodes.now args.properties.now args.values.now args.r c.if-trees-r.false c.wide-root.ensures c.if-nodes-root.false c.wide-first.ensures c.wide-count.ensures (none_told (game_in (properties_at args.text.now args.properties.now args.values.now c.wide-first.result c.wide-count.result)) c.game_in.ensures c.in-Err.is)
