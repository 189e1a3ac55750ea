use Rattle.lists.proofs.Prelude.{arith, le-ltb, lt-ltb}
use Rattle.ask_value.specs.Access.{accessed}
use Rattle.tables.proofs.Cases.{passed, refused}
use Rattle.fit.proofs.Whole.{fit-lent}
use Rattle.tables.specs.Memory.{memory}
use Rattle.ask_value.proofs.access.Goals as goal

pub returns-then-not-fits : goal.returns-then-not-fits
unfolding accessed
returns-then-not-fits c = rw (refused c.fits.ensures c.if-not-fits.true-raw)

pub returns-then-counts-k : goal.returns-then-counts-k
unfolding accessed
returns-then-counts-k c = rw (passed c.fits.ensures c.if-not-fits.false-raw, le-ltb _ _ c.if-counts-k.true)

pub part_of-requires : goal.part_of-requires
part_of-requires c = let a = c.args in let h = (fit-lent (memory a.text.now a.used a.counts a.trees.now a.nodes.now a.properties.now a.values.now) (passed c.fits.ensures c.if-not-fits.false-raw)).1.values in omega arith

pub returns : goal.returns
unfolding accessed
returns c = rw (passed c.fits.ensures c.if-not-fits.false-raw, lt-ltb _ _ c.if-counts-k.false) c.part_of.ensures
