use Rattle.lists.proofs.Prelude.{◌-◌, ◌/◌, min, length, arith}
use Rattle.edit_rows.proofs.Shifting.{before-within}
use Rattle.edit.proofs.Moved.{names-moved}
use Rattle.edit.proofs.rows.move_properties.Goals as goal

pub overflow_sub-n : goal.overflow_sub-n
overflow_sub-n c = let a = c.args in
    omega (arith, c.shift_names-kept.ensures.0, before-within a.properties.now a.k 0 (min a.n (length a.properties.now / 4 - 0)))

pub returns : goal.returns
returns c = let a = c.args in
    let p = c.requires in
    let s = c.shift_names-kept.ensures in
    let z = c.shift_all_names.ensures in
    names-moved a.start a.end a.m c.change-by.result c.change-by.ensures p.2 p.3 p.4 a.properties.now a.n a.k p.0 p.1
    s.0 s.1 z.0 z.1
