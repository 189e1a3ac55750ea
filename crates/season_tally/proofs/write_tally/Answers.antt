use Rattle.lists.proofs.Prelude.{sym, length-take-le}
use Rattle.tables.specs.Memory.{memory}
use Rattle.serialize.proofs.Room.{write-room}
use Rattle.season_tally.proofs.Writes.{wrote-fits, tally-undone, tally-done}
use Rattle.season_tally.proofs.write_tally.Goals as goal

pub slice_bounds-count-end : goal.slice_bounds-count-end
slice_bounds-count-end c = write-room _ _ _ _ c.write.ensures c.in-Ok.is

pub slice_bounds-count-end-in-Ok : goal.slice_bounds-count-end-in-Ok
slice_bounds-count-end-in-Ok c = sym (length-take-le _ _ (write-room _ _ _ _ c.write.ensures c.in-Ok.is))

pub count-all-requires : goal.count-all-requires
count-all-requires c = wrote-fits _ _ _ _ c.write.ensures c.in-Ok.is

pub returns-in-Err : goal.returns-in-Err
returns-in-Err c = let args = c.args in
    tally-undone (memory args.text.now args.used args.counts args.trees.now args.nodes.now args.properties.now args.values.now) args.out.now _ c.write.ensures c.in-Err.is

pub returns-in-Ok : goal.returns-in-Ok
returns-in-Ok c = let args = c.args in
    tally-done (memory args.text.now args.used args.counts args.trees.now args.nodes.now args.properties.now args.values.now) args.out.now _ c.write.ensures c.in-Ok.is c.count-all.ensures.0 c.count-all.ensures.1
