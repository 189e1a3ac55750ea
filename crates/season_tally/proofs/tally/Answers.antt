use Rattle.tables.specs.Memory.{memory}
use Rattle.tables.proofs.Cases.{refused, passed}
use Rattle.season_tally.proofs.Walk.{tally-unfit, tally-fit}
use Rattle.season_tally.proofs.tally.Goals as goal

pub returns-then-not-fits : goal.returns-then-not-fits
returns-then-not-fits c = let a = c.args in tally-unfit (memory a.text.now a.used a.counts a.trees.now a.nodes.now a.properties.now a.values.now) (refused c.fits.ensures c.if-not-fits.true-raw)

pub count-all-requires : goal.count-all-requires
count-all-requires c = passed c.fits.ensures c.if-not-fits.false-raw

pub returns : goal.returns
returns c = let a = c.args in
    tally-fit (memory a.text.now a.used a.counts a.trees.now a.nodes.now a.properties.now a.values.now) (passed c.fits.ensures c.if-not-fits.false-raw) _ c.count-all.ensures.0
