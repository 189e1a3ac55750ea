use Rattle.edit.proofs.Moved.{values_moved_lem}
use Rattle.edit.proofs.rows.move_values.Goals as goal

pub returns : goal.returns
returns c = let a = c.args in
    let p = c.requires in
    values_moved_lem a.start a.end a.m c.change-by.result c.change-by.ensures p.3 p.4 p.5 a.values.now a.n a.k p.0 p.1 p.2
    c.put.ensures c.shift_values.ensures
