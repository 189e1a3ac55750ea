use Rattle.lists.proofs.Prelude.{false, arith}
use Rattle.tables.proofs.Cases.{passed, refused}
use Rattle.serialize.proofs.Whole.{fit-used, fit-property, fit-nodes, fit-ends, fit-calm, write-unfit, write-nameless, write-short, write_done}
use Rattle.tables.specs.Memory.{memory}
use Rattle.serialize.proofs.write.Goals as goal

pub returns-then-not-fits : goal.returns-then-not-fits
returns-then-not-fits c = let args = c.args in
    let fits2 = c.fits in
    write-unfit (memory args.text.now args.used args.counts args.trees.now args.nodes.now args.properties.now args.values.now) args.out.now fits2.ensures c.if-not-fits.true

pub slice_bounds-used_text-end : goal.slice_bounds-used_text-end
slice_bounds-used_text-end c = let args = c.args in
    fit-used (memory args.text.now args.used args.counts args.trees.now args.nodes.now args.properties.now args.values.now) args.out.now (passed c.fits.ensures c.if-not-fits.false-raw)

pub names_good-requires : goal.names_good-requires
names_good-requires c = let args = c.args in
    fit-property (memory args.text.now args.used args.counts args.trees.now args.nodes.now args.properties.now args.values.now) args.out.now (passed c.fits.ensures c.if-not-fits.false-raw)

pub returns-then-not-names_good : goal.returns-then-not-names_good
returns-then-not-names_good c = let args = c.args in
    write-nameless (memory args.text.now args.used args.counts args.trees.now args.nodes.now args.properties.now args.values.now) args.out.now (passed c.fits.ensures c.if-not-fits.false-raw) (refused c.names_good.ensures c.if-not-names_good.true-raw)

pub any_corner-corners-requires : goal.any_corner-corners-requires
any_corner-corners-requires c = let args = c.args in
    fit-ends (memory args.text.now args.used args.counts args.trees.now args.nodes.now args.properties.now args.values.now) args.out.now (passed c.fits.ensures c.if-not-fits.false-raw)

pub put_all-need-requires : goal.put_all-need-requires
put_all-need-requires c = let args = c.args in
    let fit = passed c.fits.ensures c.if-not-fits.false-raw in
    (fit-nodes (memory args.text.now args.used args.counts args.trees.now args.nodes.now args.properties.now args.values.now) args.out.now fit, fit-calm (memory args.text.now args.used args.counts args.trees.now args.nodes.now args.properties.now args.values.now) args.out.now fit false c.any_corner-corners.ensures)

pub returns-then-out-need : goal.returns-then-out-need
returns-then-out-need c = let args = c.args in
    write-short (memory args.text.now args.used args.counts args.trees.now args.nodes.now args.properties.now args.values.now) args.out.now (passed c.fits.ensures c.if-not-fits.false-raw) (passed c.names_good.ensures c.if-not-names_good.false-raw) (omega (arith, c.well_formed)) c.put_all-need.ensures c.if-out-need.true

pub put_all-length-requires : goal.put_all-length-requires
put_all-length-requires c = let args = c.args in
    let fit = passed c.fits.ensures c.if-not-fits.false-raw in
    (fit-nodes (memory args.text.now args.used args.counts args.trees.now args.nodes.now args.properties.now args.values.now) args.out.now fit, fit-calm (memory args.text.now args.used args.counts args.trees.now args.nodes.now args.properties.now args.values.now) args.out.now fit false c.any_corner-corners.ensures)

pub returns : goal.returns
returns c = let args = c.args in
    write_done (memory args.text.now args.used args.counts args.trees.now args.nodes.now args.properties.now args.values.now) args.out.now (passed c.fits.ensures c.if-not-fits.false-raw) (passed c.names_good.ensures c.if-not-names_good.false-raw) (omega (arith, c.well_formed)) c.put_all-need.ensures c.if-out-need.false c.put_all-length.ensures
