use Rattle.salvage_list.proofs.Slices.{listing-first, listing-few, listing-ready, listing-more, listing-end}
use Rattle.lists.proofs.Prelude.{◌∙◌}
use Rattle.salvage_list.proofs.put_slices.Goals as goal

pub loop-k-init : goal.loop-k-init
loop-k-init c = listing-first _ c.requires

pub put_tree-x-requires : goal.put_tree-x-requires
put_tree-x-requires c = listing-ready c.loop-k.invariant c.loop-k-test.true

pub loop-k-preserved : goal.loop-k-preserved
loop-k-preserved c = listing-more c.loop-k.invariant c.loop-k-test.true c.put_tree-x.ensures

pub put_tail-requires : goal.put_tail-requires
put_tail-requires c = (c.requires.short, listing-few c.loop-k.invariant)

pub shape_of-rows : goal.shape_of-rows
shape_of-rows c = c.put_tail.ensures.put.len ∙ c.loop-k.invariant.put.put.len

pub returns : goal.returns
returns c = listing-end c.loop-k.invariant c.loop-k-test.false c.put_tail.ensures
