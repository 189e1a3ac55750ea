use Rattle.serialize.proofs.Whole.{fit-used, fit-property, fit-nodes, fit-ends, fit-calm}
use Rattle.serialize.proofs.Measured.{length-unfit, length-nameless, length-beyond, length-done}
use Rattle.tables.specs.Memory.{memory}
use Rattle.tables.proofs.Cases.{passed, refused}
use Rattle.lists.proofs.Prelude.{[], false}
use Rattle.serialize.proofs.write_length.Goals as goal

pub returns-then-not-fits : goal.returns-then-not-fits
returns-then-not-fits c = let args = c.args in
    length-unfit (memory args.text.now args.used args.counts args.trees.now args.nodes.now args.properties.now args.values.now) c.fits.ensures c.if-not-fits.true

pub slice_bounds-used_text-end : goal.slice_bounds-used_text-end
slice_bounds-used_text-end c = let args = c.args in
    fit-used (memory args.text.now args.used args.counts args.trees.now args.nodes.now args.properties.now args.values.now) [] (passed c.fits.ensures c.if-not-fits.false-raw)

pub names_good-requires : goal.names_good-requires
names_good-requires c = let args = c.args in
    fit-property (memory args.text.now args.used args.counts args.trees.now args.nodes.now args.properties.now args.values.now) [] (passed c.fits.ensures c.if-not-fits.false-raw)

pub returns-then-not-names_good : goal.returns-then-not-names_good
returns-then-not-names_good c = let args = c.args in
    length-nameless (memory args.text.now args.used args.counts args.trees.now args.nodes.now args.properties.now args.values.now) (passed c.fits.ensures c.if-not-fits.false-raw) (refused c.names_good.ensures c.if-not-names_good.true-raw)

pub any_corner-corners-requires : goal.any_corner-corners-requires
any_corner-corners-requires c = let args = c.args in
    fit-ends (memory args.text.now args.used args.counts args.trees.now args.nodes.now args.properties.now args.values.now) [] (passed c.fits.ensures c.if-not-fits.false-raw)

pub put_all-need-requires : goal.put_all-need-requires
put_all-need-requires c = let args = c.args in
    (fit-nodes (memory args.text.now args.used args.counts args.trees.now args.nodes.now args.properties.now args.values.now) [] (passed c.fits.ensures c.if-not-fits.false-raw), fit-calm (memory args.text.now args.used args.counts args.trees.now args.nodes.now args.properties.now args.values.now) [] (passed c.fits.ensures c.if-not-fits.false-raw) false c.any_corner-corners.ensures)

pub returns-then-need : goal.returns-then-need
returns-then-need c = let args = c.args in
    length-beyond (memory args.text.now args.used args.counts args.trees.now args.nodes.now args.properties.now args.values.now) (passed c.fits.ensures c.if-not-fits.false-raw) (passed c.names_good.ensures c.if-not-names_good.false-raw) c.put_all-need.ensures c.if-need.true

pub returns : goal.returns
returns c = let args = c.args in
    length-done (memory args.text.now args.used args.counts args.trees.now args.nodes.now args.properties.now args.values.now) (passed c.fits.ensures c.if-not-fits.false-raw) (passed c.names_good.ensures c.if-not-names_good.false-raw) c.put_all-need.ensures c.if-need.false
