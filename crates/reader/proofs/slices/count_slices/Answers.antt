use Rattle.reader.proofs.Whole.{count-refused, count-accepted, grown-counted, total-rows, total-refused}
use Rattle.reader.proofs.slices.count_slices.Goals as goal

pub returns-in-Err : goal.returns-in-Err
returns-in-Err c = count-refused (total-refused _ _ c.count_rows.ensures c.in-Err.is)

pub returns-in-Ok : goal.returns-in-Ok
returns-in-Ok c = count-accepted (grown-counted (total-rows _ _ c.count_rows.ensures c.in-Ok.is))
