use Rattle.lists.proofs.Prelude.{arith, false≢true}
use Rattle.season_tally.proofs.Points.{always-moves}
use Rattle.season_tally.proofs.is_point.Goals as goal

pub returns-then-count-ne1 : goal.returns-then-count-ne1
returns-then-count-ne1 c = λ e. absurd (false≢true e)

pub returns-in-97-to-115 : goal.returns-in-97-to-115
returns-in-97-to-115 c = λ e. let a = c.args in
    always-moves a.text.now a.values.now a.first a.count c.if-count-ne1.false c.value_at.ensures (omega arith) (omega arith) (omega arith) (omega arith) (omega arith)
