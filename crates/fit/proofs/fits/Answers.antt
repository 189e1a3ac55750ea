use Rattle.lists.proofs.Prelude.{sym, length-take-le}
use Rattle.fit.specs.Fit.{Fit}
use Rattle.tables.proofs.Cases.{passed, refused}
use Rattle.fit.proofs.Whole.{lent_is}
use Rattle.tables.specs.Memory.{memory}
use Rattle.fit.proofs.fits.Goals as goal

pub returns-then-not-is_lent : goal.returns-then-not-is_lent
unfolding Fit
returns-then-not-is_lent c = rw (refused c.is_lent.ensures c.if-not-is_lent.true-raw)

pub slice_bounds-fits_text-end : goal.slice_bounds-fits_text-end
slice_bounds-fits_text-end c = let a = c.args in sym (length-take-le _ _ (lent_is (memory a.text.now a.used a.counts a.trees.now a.nodes.now a.properties.now a.values.now) (passed c.is_lent.ensures c.if-not-is_lent.false-raw)).0)

pub fits_text-requires : goal.fits_text-requires
fits_text-requires c = let a = c.args in (lent_is (memory a.text.now a.used a.counts a.trees.now a.nodes.now a.properties.now a.values.now) (passed c.is_lent.ensures c.if-not-is_lent.false-raw)).1

pub returns : goal.returns
unfolding Fit
returns c = rw (passed c.is_lent.ensures c.if-not-is_lent.false-raw) c.fits_text.ensures
