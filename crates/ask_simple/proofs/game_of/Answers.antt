use Rattle.lists.proofs.Prelude.{◌+◌, arith, ap, ◌∙◌, rules}
use Rattle.ask.proofs.Search.{tree-here, tree-on, tree-end, tree-first}
use Rattle.tables.specs.Columns.{game_at}
use Rattle.ask_simple.proofs.game_of.Goals as goal

pub loop-r-init : goal.loop-r-init
loop-r-init c = let a = c.args in (search rules, tree-first a.trees.now a.nodes.now a.p a.m)

pub overflow_mul-root : goal.overflow_mul-root
overflow_mul-root c = let g = c.requires.roots (c.loop-r.r + 1) c.loop-r-test.true in let e = c.wide-root.ensures in search rules

pub overflow_add-root : goal.overflow_add-root
overflow_add-root c = let g = c.requires.roots (c.loop-r.r + 1) c.loop-r-test.true in let e = c.wide-root.ensures in search rules

pub offset_bounds-nodes-root : goal.offset_bounds-nodes-root
offset_bounds-nodes-root c = let g = c.requires.roots (c.loop-r.r + 1) c.loop-r-test.true in let e = c.wide-root.ensures in search rules

pub bounds-nodes-root : goal.bounds-nodes-root
bounds-nodes-root c = let g = c.requires.roots (c.loop-r.r + 1) c.loop-r-test.true in let e = c.wide-root.ensures in omega arith

pub returns-then-p-wide : goal.returns-then-p-wide
returns-then-p-wide c = let a = c.args in ap (game_at a.trees.now) (tree-here a.trees.now a.nodes.now a.p a.m c.loop-r.r c.loop-r-test.true c.wide-root.ensures c.wide.ensures c.if-p-wide.true ∙ c.loop-r.invariant.1)

pub loop-r-preserved : goal.loop-r-preserved
loop-r-preserved c = let a = c.args in (search rules, tree-on a.trees.now a.nodes.now a.p a.m c.loop-r.r c.loop-r-test.true c.wide-root.ensures c.wide.ensures (search rules) ∙ c.loop-r.invariant.1)

pub returns : goal.returns
returns c = let a = c.args in ap (game_at a.trees.now) (tree-end a.trees.now a.nodes.now a.p a.m c.loop-r.r (search rules) ∙ c.loop-r.invariant.1)
