use Rattle.value_display.proofs.Shown.{past-it, past-none}
use Rattle.value_display.proofs.past.Goals as goal

pub returns-then-p-other : goal.returns-then-p-other
returns-then-p-other c = let args = c.args in
    past-it args.other args.s.now args.at c.peek-p.ensures c.if-p-other.true

pub returns : goal.returns
returns c = let args = c.args in
    past-none args.other args.s.now args.at c.peek-p.ensures c.if-p-other.false
