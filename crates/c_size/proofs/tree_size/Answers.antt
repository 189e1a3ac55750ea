use Rattle.lists.proofs.Prelude.{sym, length-take-le}
use Rattle.fit.proofs.Whole.{fit-lent}
use Rattle.tables.proofs.Cases.{passed, refused}
use Rattle.tables.specs.Memory.{memory}
use Rattle.c_size.proofs.Trees.{size-yes, size-no, size-unfit}
use Rattle.c_size.proofs.tree_size.Goals as goal

pub returns-then-not-fits : goal.returns-then-not-fits
returns-then-not-fits c = let args = c.args in size-unfit (memory args.text.now args.used args.counts args.trees.now args.nodes.now args.properties.now args.values.now) args.r (refused c.fits.ensures c.if-not-fits.true-raw) c.refused.ensures

pub returns-then-counts-r : goal.returns-then-counts-r
returns-then-counts-r c = let args = c.args in size-no (memory args.text.now args.used args.counts args.trees.now args.nodes.now args.properties.now args.values.now) args.r (passed c.fits.ensures c.if-not-fits.false-raw) c.if-counts-r.true c.refused-then-counts-r.ensures

pub slice_bounds-size_by_rows-end : goal.slice_bounds-size_by_rows-end
slice_bounds-size_by_rows-end c = let args = c.args in sym (length-take-le _ _ (fit-lent (memory args.text.now args.used args.counts args.trees.now args.nodes.now args.properties.now args.values.now) (passed c.fits.ensures c.if-not-fits.false-raw)).0)

pub returns : goal.returns
returns c = let args = c.args in size-yes (memory args.text.now args.used args.counts args.trees.now args.nodes.now args.properties.now args.values.now) args.r (passed c.fits.ensures c.if-not-fits.false-raw) c.if-counts-r.false c.size_by_rows.ensures
