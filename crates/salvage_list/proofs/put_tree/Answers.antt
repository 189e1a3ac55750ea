use Rattle.salvage_list.proofs.Trees.{stood-few, rooted-few, tree-listed}
use Rattle.lists.proofs.Prelude.{arith, ◌∙◌}
use Rattle.salvage_list.proofs.put_tree.Goals as goal

pub put_root-rooted-requires : goal.put_root-rooted-requires
put_root-rooted-requires c = let f = stood-few c.requires.0 c.walk_slice-w.ensures in let p = c.requires in (omega arith, omega arith)

pub put_cut-next-requires : goal.put_cut-next-requires
put_cut-next-requires c = let f = rooted-few c.requires.0 c.walk_slice-w.ensures c.args.tree c.put_root-rooted.ensures in let p = c.requires in let i = c.walk_slice-w.ensures.inside in let s = c.requires.0.short in (omega arith, omega arith, omega arith)

pub shape_of-rows : goal.shape_of-rows
shape_of-rows c = c.put_cut-next.ensures.put.len ∙ c.put_root-rooted.ensures.put.len ∙ c.walk_slice-w.ensures.put.put.len

pub returns : goal.returns
returns c = tree-listed c.requires.0 c.walk_slice-w.ensures c.args.tree c.put_root-rooted.ensures c.put_cut-next.ensures c.max.ensures
