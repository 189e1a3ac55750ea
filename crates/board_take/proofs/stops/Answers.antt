use Rattle.lists.proofs.Prelude.{◌∙◌, false≢true, sym, true≢false}
use Rattle.board_take.proofs.stops.Goals as goal

pub returns-then-stop : goal.returns-then-stop
returns-then-stop c = record { asked = λ e. c.if-stop.true; yes-free = c.free.ensures.yes-free; no-free = λ e. c.free.ensures.no-free }

pub returns : goal.returns
returns c = record { asked = λ e. absurd (false≢true e); yes-free = λ e. absurd (false≢true e); no-free = λ e f. absurd (true≢false (sym e ∙ c.if-stop.false)) }
