use Rattle.reader.proofs.Plants.{plant-first, plant-keeps, plant-end, plant-ready, plant-go, plant-no, plant-stop, plant-more, walk-tree-as, walk-refused-as}
use Rattle.lists.proofs.Prelude.{arith}
use Rattle.parser_tree.proofs.Told.{told}
use Rattle.reader.proofs.slices.read_trees.Goals as goal

pub loop-k-init : goal.loop-k-init
loop-k-init c = plant-first _ c.requires.0 c.requires.1

pub type_unless-requires : goal.type_unless-requires
type_unless-requires c = plant-go c.loop-k.invariant c.loop-k-test.true

pub shape_of-trees-in-Err : goal.shape_of-trees-in-Err
shape_of-trees-in-Err c = (plant-keeps c.loop-k.invariant).0

pub shape_of-nodes-in-Err : goal.shape_of-nodes-in-Err
shape_of-nodes-in-Err c = (plant-keeps c.loop-k.invariant).1

pub shape_of-properties-in-Err : goal.shape_of-properties-in-Err
shape_of-properties-in-Err c = (plant-keeps c.loop-k.invariant).2

pub shape_of-values-in-Err : goal.shape_of-values-in-Err
shape_of-values-in-Err c = (plant-keeps c.loop-k.invariant).3

pub returns-in-Err : goal.returns-in-Err
returns-in-Err c = plant-no c.loop-k.invariant c.loop-k-test.true c.type_unless.ensures c.in-Err.is

pub shape_of-trees-in-Err-walk_tree : goal.shape_of-trees-in-Err-walk_tree
shape_of-trees-in-Err-walk_tree c = (plant-keeps c.loop-k.invariant).0

pub shape_of-nodes-in-Err-walk_tree : goal.shape_of-nodes-in-Err-walk_tree
shape_of-nodes-in-Err-walk_tree c = let k = (plant-keeps c.loop-k.invariant) in omega arith

pub shape_of-properties-in-Err-walk_tree : goal.shape_of-properties-in-Err-walk_tree
shape_of-properties-in-Err-walk_tree c = let k = (plant-keeps c.loop-k.invariant) in omega arith

pub shape_of-values-in-Err-walk_tree : goal.shape_of-values-in-Err-walk_tree
shape_of-values-in-Err-walk_tree c = let k = (plant-keeps c.loop-k.invariant) in omega arith

pub returns-in-Err-walk_tree : goal.returns-in-Err-walk_tree
returns-in-Err-walk_tree c = plant-stop c.loop-k.invariant c.loop-k-test.true c.type_unless.ensures c.in-Ok.is (walk-refused-as _ _ _ _ _ _ _ _ _ _ _ _ (told (plant-ready c.loop-k.invariant c.loop-k-test.true) _ _ _ _ _ _ c.walk_tree.ensures) c.in-Err-walk_tree.is)

pub overflow_mul-k : goal.overflow_mul-k
overflow_mul-k c = let r = c.loop-k.invariant.ready in let b = c.loop-k.invariant.below in omega arith

pub overflow_cast-n : goal.overflow_cast-n
overflow_cast-n c = let r = c.loop-k.invariant.ready in let b = c.loop-k.invariant.below in omega arith

pub loop-k-preserved : goal.loop-k-preserved
loop-k-preserved c = plant-more c.loop-k.invariant c.loop-k-test.true c.type_unless.ensures c.in-Ok.is (walk-tree-as _ _ _ _ _ _ _ _ _ _ _ _ (told (plant-ready c.loop-k.invariant c.loop-k-test.true) _ _ _ _ _ _ c.walk_tree.ensures) c.in-Ok-walk_tree.is) c.put.ensures.is

pub shape_of-trees : goal.shape_of-trees
shape_of-trees c = (plant-keeps c.loop-k.invariant).0

pub shape_of-nodes : goal.shape_of-nodes
shape_of-nodes c = (plant-keeps c.loop-k.invariant).1

pub shape_of-properties : goal.shape_of-properties
shape_of-properties c = (plant-keeps c.loop-k.invariant).2

pub shape_of-values : goal.shape_of-values
shape_of-values c = (plant-keeps c.loop-k.invariant).3

pub returns : goal.returns
returns c = plant-end c.loop-k.invariant c.loop-k-test.false
