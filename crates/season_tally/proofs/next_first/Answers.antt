use borrow.Author.Rules.{rules}
use Rattle.lists.proofs.Prelude.{◌+◌, arith, rules}
use Rattle.season_tally.proofs.Playing.{next_last, next-root}
use Rattle.season_tally.proofs.next_first.Goals as goal

pub returns-then-m-r : goal.returns-then-m-r
returns-then-m-r c = let a = c.args in next_last a.trees.now a.nodes.now a.m a.r a.n c.if-m-r.true

pub bounds-trees-r : goal.bounds-trees-r
bounds-trees-r c = let g = c.requires.1.lent in omega arith

pub overflow_mul-root : goal.overflow_mul-root
overflow_mul-root c = let g = c.requires.1.roots (c.args.r + 1) c.if-m-r.false in let e = c.wide-root.ensures in search rules

pub overflow_add-root : goal.overflow_add-root
overflow_add-root c = let g = c.requires.1.roots (c.args.r + 1) c.if-m-r.false in let e = c.wide-root.ensures in search rules

pub offset_bounds-nodes-root : goal.offset_bounds-nodes-root
offset_bounds-nodes-root c = let g = c.requires.1.roots (c.args.r + 1) c.if-m-r.false in let e = c.wide-root.ensures in search rules

pub bounds-nodes-root : goal.bounds-nodes-root
bounds-nodes-root c = let g = c.requires.1.roots (c.args.r + 1) c.if-m-r.false in let e = c.wide-root.ensures in omega arith

pub returns : goal.returns
returns c = let a = c.args in next-root a.trees.now a.nodes.now a.m a.r a.n c.if-m-r.false _ _ c.wide-root.ensures c.wide.ensures
