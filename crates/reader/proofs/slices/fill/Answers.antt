use Rattle.lists.proofs.Prelude.{refl}
use Rattle.reader.proofs.Whole.{read-no-room, read-accepted}
use Rattle.reader.specs.Lent.{lent}
use Rattle.reader.proofs.slices.fill.Goals as goal

pub returns-then-not-has_room : goal.returns-then-not-has_room
returns-then-not-has_room c = read-no-room c.requires.counted _ c.has_room.ensures c.if-not-has_room.true

pub read_trees-requires : goal.read_trees-requires
read_trees-requires c = (c.requires.ready, c.requires.games)

pub returns : goal.returns
returns c = read-accepted c.requires.counted _ c.has_room.ensures c.if-not-has_room.false (lent c.read_trees.new.trees c.read_trees.new.nodes c.read_trees.new.properties c.read_trees.new.values) c.read_trees.result c.read_trees.ensures _ _ refl _ _ c.link_nodes.ensures c.level_nodes.ensures
