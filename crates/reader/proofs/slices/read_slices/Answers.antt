use Rattle.lists.proofs.Prelude.{false≢true}
use Rattle.reader.proofs.Whole.{read-refused, grown-counted, total-rows, total-refused}
use Rattle.reader.proofs.slices.read_slices.Goals as goal

pub fill-requires : goal.fill-requires
fill-requires c = record { ready = c.requires; counted = grown-counted (total-rows _ _ c.count_rows.ensures c.in-Ok.is); games = λ e. absurd (false≢true e) }

pub returns-in-Err : goal.returns-in-Err
returns-in-Err c = read-refused (total-refused _ _ c.count_rows.ensures c.in-Err.is)

pub returns-in-Ok : goal.returns-in-Ok
returns-in-Ok c = c.fill.ensures
