use Rattle.lists.proofs.Prelude.{length-take-le, refl, sym, ◌∙◌, arith}
use Rattle.tables.specs.Memory.{memory}
use Rattle.tables.proofs.Cases.{refused, passed}
use Rattle.fit.proofs.Whole.{fit-lent}
use Rattle.board.proofs.Answers.{board-unfit, board-no, trees-lent, tree-row, other-game, root-row, walk-to, sides-right, size-wrong, size-played}
use borrow.Author.Rules.{rules}
use Rattle.board.proofs.board.Goals as goal

pub returns-then-not-fits : goal.returns-then-not-fits
returns-then-not-fits c = board-unfit (memory c.args.text.now c.args.used c.args.counts c.args.trees.now c.args.nodes.now c.args.properties.now c.args.values.now) c.args.k (refused c.fits.ensures c.if-not-fits.true-raw) c.refuse.ensures

pub returns-then-counts-k : goal.returns-then-counts-k
returns-then-counts-k c = board-no (memory c.args.text.now c.args.used c.args.counts c.args.trees.now c.args.nodes.now c.args.properties.now c.args.values.now) c.args.k (passed c.fits.ensures c.if-not-fits.false-raw) c.if-counts-k.true c.refuse-then-counts-k.ensures

pub tree_over-tree-requires : goal.tree_over-tree-requires
tree_over-tree-requires c = trees-lent (memory c.args.text.now c.args.used c.args.counts c.args.trees.now c.args.nodes.now c.args.properties.now c.args.values.now) c.args.k (passed c.fits.ensures c.if-not-fits.false-raw) c.if-counts-k.false

pub overflow_mul-tree : goal.overflow_mul-tree
overflow_mul-tree c = let r = tree-row (memory c.args.text.now c.args.used c.args.counts c.args.trees.now c.args.nodes.now c.args.properties.now c.args.values.now) c.args.k (passed c.fits.ensures c.if-not-fits.false-raw) c.if-counts-k.false c.tree_over-tree.result c.tree_over-tree.ensures in search rules

pub overflow_add-tree : goal.overflow_add-tree
overflow_add-tree c = let r = tree-row (memory c.args.text.now c.args.used c.args.counts c.args.trees.now c.args.nodes.now c.args.properties.now c.args.values.now) c.args.k (passed c.fits.ensures c.if-not-fits.false-raw) c.if-counts-k.false c.tree_over-tree.result c.tree_over-tree.ensures in search rules

pub offset_bounds-trees-tree : goal.offset_bounds-trees-tree
offset_bounds-trees-tree c = let r = tree-row (memory c.args.text.now c.args.used c.args.counts c.args.trees.now c.args.nodes.now c.args.properties.now c.args.values.now) c.args.k (passed c.fits.ensures c.if-not-fits.false-raw) c.if-counts-k.false c.tree_over-tree.result c.tree_over-tree.ensures in search rules

pub bounds-trees-tree : goal.bounds-trees-tree
bounds-trees-tree c = let r = tree-row (memory c.args.text.now c.args.used c.args.counts c.args.trees.now c.args.nodes.now c.args.properties.now c.args.values.now) c.args.k (passed c.fits.ensures c.if-not-fits.false-raw) c.if-counts-k.false c.tree_over-tree.result c.tree_over-tree.ensures in omega arith

pub returns-then-trees-tree-ne0 : goal.returns-then-trees-tree-ne0
returns-then-trees-tree-ne0 c = other-game (memory c.args.text.now c.args.used c.args.counts c.args.trees.now c.args.nodes.now c.args.properties.now c.args.values.now) c.args.k (passed c.fits.ensures c.if-not-fits.false-raw) c.if-counts-k.false c.tree_over-tree.result c.tree_over-tree.ensures c.if-trees-tree-ne0.true c.refuse-then-trees-tree-ne0.ensures

pub overflow_mul-tree-2 : goal.overflow_mul-tree-2
overflow_mul-tree-2 c = let r = tree-row (memory c.args.text.now c.args.used c.args.counts c.args.trees.now c.args.nodes.now c.args.properties.now c.args.values.now) c.args.k (passed c.fits.ensures c.if-not-fits.false-raw) c.if-counts-k.false c.tree_over-tree.result c.tree_over-tree.ensures in search rules

pub offset_bounds-trees-tree-2 : goal.offset_bounds-trees-tree-2
offset_bounds-trees-tree-2 c = let r = tree-row (memory c.args.text.now c.args.used c.args.counts c.args.trees.now c.args.nodes.now c.args.properties.now c.args.values.now) c.args.k (passed c.fits.ensures c.if-not-fits.false-raw) c.if-counts-k.false c.tree_over-tree.result c.tree_over-tree.ensures in search rules

pub bounds-trees-tree-2 : goal.bounds-trees-tree-2
bounds-trees-tree-2 c = let r = tree-row (memory c.args.text.now c.args.used c.args.counts c.args.trees.now c.args.nodes.now c.args.properties.now c.args.values.now) c.args.k (passed c.fits.ensures c.if-not-fits.false-raw) c.if-counts-k.false c.tree_over-tree.result c.tree_over-tree.ensures in omega arith

pub overflow_mul-root : goal.overflow_mul-root
overflow_mul-root c = let r = root-row (memory c.args.text.now c.args.used c.args.counts c.args.trees.now c.args.nodes.now c.args.properties.now c.args.values.now) c.args.k (passed c.fits.ensures c.if-not-fits.false-raw) c.if-counts-k.false c.tree_over-tree.result c.tree_over-tree.ensures c.wide-root.result c.wide-root.ensures in search rules

pub overflow_add-root : goal.overflow_add-root
overflow_add-root c = let r = root-row (memory c.args.text.now c.args.used c.args.counts c.args.trees.now c.args.nodes.now c.args.properties.now c.args.values.now) c.args.k (passed c.fits.ensures c.if-not-fits.false-raw) c.if-counts-k.false c.tree_over-tree.result c.tree_over-tree.ensures c.wide-root.result c.wide-root.ensures in search rules

pub offset_bounds-nodes-root : goal.offset_bounds-nodes-root
offset_bounds-nodes-root c = let r = root-row (memory c.args.text.now c.args.used c.args.counts c.args.trees.now c.args.nodes.now c.args.properties.now c.args.values.now) c.args.k (passed c.fits.ensures c.if-not-fits.false-raw) c.if-counts-k.false c.tree_over-tree.result c.tree_over-tree.ensures c.wide-root.result c.wide-root.ensures in search rules

pub bounds-nodes-root : goal.bounds-nodes-root
bounds-nodes-root c = let r = root-row (memory c.args.text.now c.args.used c.args.counts c.args.trees.now c.args.nodes.now c.args.properties.now c.args.values.now) c.args.k (passed c.fits.ensures c.if-not-fits.false-raw) c.if-counts-k.false c.tree_over-tree.result c.tree_over-tree.ensures c.wide-root.result c.wide-root.ensures in omega arith

pub overflow_mul-root-2 : goal.overflow_mul-root-2
overflow_mul-root-2 c = let r = root-row (memory c.args.text.now c.args.used c.args.counts c.args.trees.now c.args.nodes.now c.args.properties.now c.args.values.now) c.args.k (passed c.fits.ensures c.if-not-fits.false-raw) c.if-counts-k.false c.tree_over-tree.result c.tree_over-tree.ensures c.wide-root.result c.wide-root.ensures in search rules

pub overflow_add-root-2 : goal.overflow_add-root-2
overflow_add-root-2 c = let r = root-row (memory c.args.text.now c.args.used c.args.counts c.args.trees.now c.args.nodes.now c.args.properties.now c.args.values.now) c.args.k (passed c.fits.ensures c.if-not-fits.false-raw) c.if-counts-k.false c.tree_over-tree.result c.tree_over-tree.ensures c.wide-root.result c.wide-root.ensures in search rules

pub offset_bounds-nodes-root-2 : goal.offset_bounds-nodes-root-2
offset_bounds-nodes-root-2 c = let r = root-row (memory c.args.text.now c.args.used c.args.counts c.args.trees.now c.args.nodes.now c.args.properties.now c.args.values.now) c.args.k (passed c.fits.ensures c.if-not-fits.false-raw) c.if-counts-k.false c.tree_over-tree.result c.tree_over-tree.ensures c.wide-root.result c.wide-root.ensures in search rules

pub bounds-nodes-root-2 : goal.bounds-nodes-root-2
bounds-nodes-root-2 c = let r = root-row (memory c.args.text.now c.args.used c.args.counts c.args.trees.now c.args.nodes.now c.args.properties.now c.args.values.now) c.args.k (passed c.fits.ensures c.if-not-fits.false-raw) c.if-counts-k.false c.tree_over-tree.result c.tree_over-tree.ensures c.wide-root.result c.wide-root.ensures in omega arith

pub slice_bounds-part-end : goal.slice_bounds-part-end
slice_bounds-part-end c = sym (length-take-le _ _ (fit-lent (memory c.args.text.now c.args.used c.args.counts c.args.trees.now c.args.nodes.now c.args.properties.now c.args.values.now) (passed c.fits.ensures c.if-not-fits.false-raw)).0)

pub play_way-requires : goal.play_way-requires
play_way-requires c = (sides-right (memory c.args.text.now c.args.used c.args.counts c.args.trees.now c.args.nodes.now c.args.properties.now c.args.values.now) c.args.k (passed c.fits.ensures c.if-not-fits.false-raw) c.if-counts-k.false c.tree_over-tree.result c.tree_over-tree.ensures c.wide-root.result c.wide-root.ensures c.if-trees-tree-ne0.false c.wide-first.ensures c.wide-count.ensures (sym c.in-Absent.is ∙ c.size_in.ensures), walk-to (memory c.args.text.now c.args.used c.args.counts c.args.trees.now c.args.nodes.now c.args.properties.now c.args.values.now) c.args.k (passed c.fits.ensures c.if-not-fits.false-raw) c.if-counts-k.false c.tree_over-tree.result c.tree_over-tree.ensures c.wide-root.result c.wide-root.ensures)

pub play_way-requires-in-Sized : goal.play_way-requires-in-Sized
play_way-requires-in-Sized c = (sides-right (memory c.args.text.now c.args.used c.args.counts c.args.trees.now c.args.nodes.now c.args.properties.now c.args.values.now) c.args.k (passed c.fits.ensures c.if-not-fits.false-raw) c.if-counts-k.false c.tree_over-tree.result c.tree_over-tree.ensures c.wide-root.result c.wide-root.ensures c.if-trees-tree-ne0.false c.wide-first.ensures c.wide-count.ensures (sym c.in-Sized.is ∙ c.size_in.ensures), walk-to (memory c.args.text.now c.args.used c.args.counts c.args.trees.now c.args.nodes.now c.args.properties.now c.args.values.now) c.args.k (passed c.fits.ensures c.if-not-fits.false-raw) c.if-counts-k.false c.tree_over-tree.result c.tree_over-tree.ensures c.wide-root.result c.wide-root.ensures)

pub returns-in-Absent : goal.returns-in-Absent
returns-in-Absent c = size-played (memory c.args.text.now c.args.used c.args.counts c.args.trees.now c.args.nodes.now c.args.properties.now c.args.values.now) c.args.k (passed c.fits.ensures c.if-not-fits.false-raw) c.if-counts-k.false c.tree_over-tree.result c.tree_over-tree.ensures c.wide-root.result c.wide-root.ensures c.if-trees-tree-ne0.false c.wide-first.ensures c.wide-count.ensures (sym c.in-Absent.is ∙ c.size_in.ensures) refl c.play_way.ensures

pub returns-in-Sized : goal.returns-in-Sized
returns-in-Sized c = size-played (memory c.args.text.now c.args.used c.args.counts c.args.trees.now c.args.nodes.now c.args.properties.now c.args.values.now) c.args.k (passed c.fits.ensures c.if-not-fits.false-raw) c.if-counts-k.false c.tree_over-tree.result c.tree_over-tree.ensures c.wide-root.result c.wide-root.ensures c.if-trees-tree-ne0.false c.wide-first.ensures c.wide-count.ensures (sym c.in-Sized.is ∙ c.size_in.ensures) refl c.play_way-in-Sized.ensures

pub returns-in-Wrong : goal.returns-in-Wrong
returns-in-Wrong c = size-wrong (memory c.args.text.now c.args.used c.args.counts c.args.trees.now c.args.nodes.now c.args.properties.now c.args.values.now) c.args.k (passed c.fits.ensures c.if-not-fits.false-raw) c.if-counts-k.false c.tree_over-tree.result c.tree_over-tree.ensures c.wide-root.result c.wide-root.ensures c.if-trees-tree-ne0.false c.wide-first.ensures c.wide-count.ensures (sym c.in-Wrong.is ∙ c.size_in.ensures) refl c.refuse-in-Wrong.ensures
