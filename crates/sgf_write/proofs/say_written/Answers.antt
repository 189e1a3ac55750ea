use Rattle.lists.proofs.Prelude.{sym, length-take-le}
use Rattle.serialize.proofs.Room.{write-room}
use Rattle.sgf_write.proofs.say_written.Goals as goal

pub slice_bounds-write_all-end : goal.slice_bounds-write_all-end
slice_bounds-write_all-end c = write-room _ _ _ _ c.write.ensures c.in-Ok.is

pub slice_bounds-write_all-end-in-Ok : goal.slice_bounds-write_all-end-in-Ok
slice_bounds-write_all-end-in-Ok c = sym (length-take-le _ _ (write-room _ _ _ _ c.write.ensures c.in-Ok.is))
