use Rattle.lists.proofs.Prelude.{true}
use Rattle.store_bytes.proofs.Written.{wrote-is}
use Rattle.tables.specs.Memory.{memory}
use Rattle.serialize.proofs.Linked.{mended-is}
use Rattle.serialize.proofs.Whole.{fit-used, fit-nodes, fit-ends, fit-calm}
use Rattle.serialize.proofs.put_mended.Goals as goal

pub slice_bounds-used_text-end : goal.slice_bounds-used_text-end
slice_bounds-used_text-end c = let args = c.args in
    fit-used (memory args.text.now args.used args.counts args.trees.now args.nodes.now args.properties.now args.values.now) args.out.now c.requires

pub any_corner-corners-requires : goal.any_corner-corners-requires
any_corner-corners-requires c = let args = c.args in
    fit-ends (memory args.text.now args.used args.counts args.trees.now args.nodes.now args.properties.now args.values.now) args.out.now c.requires

pub put_all-requires : goal.put_all-requires
put_all-requires c = let args = c.args in
    let m = memory args.text.now args.used args.counts args.trees.now args.nodes.now args.properties.now args.values.now in
    (fit-nodes m args.out.now c.requires, fit-calm m args.out.now c.requires true c.any_corner-corners.ensures)

pub returns : goal.returns
returns c = let args = c.args in
    wrote-is (mended-is (memory args.text.now args.used args.counts args.trees.now args.nodes.now args.properties.now args.values.now) c.requires) c.put_all.ensures
