use Rattle.lists.proofs.Prelude.{arith}
use Rattle.values.specs.Read.{read_value}
use Rattle.go.proofs.Sets.{area-corners, adds-bad, adds-rect}
use Rattle.go.proofs.set.mark_value.Goals as goal

pub mark_rect-requires : goal.mark_rect-requires
mark_rect-requires c = let args = c.args in
    let read-area = c.read_area in
    omega (arith, area-corners (read_value args.value.now) read-area.ensures c.in-Rect.is)

pub returns-in-Bad : goal.returns-in-Bad
returns-in-Bad c = adds-bad _ c.read_area.ensures c.in-Bad.is

pub returns-in-Rect : goal.returns-in-Rect
returns-in-Rect c = let read-area = c.read_area in
    adds-rect read-area.ensures c.in-Rect.is c.mark_rect.ensures
