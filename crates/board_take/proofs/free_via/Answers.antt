use Rattle.lists.proofs.Prelude.{sym, true≢false}
use Rattle.board_take.proofs.free_via.Goals as goal

pub returns-then-q-ge2704 : goal.returns-then-q-ge2704
returns-then-q-ge2704 c = λ e. absurd (true≢false (sym e))

pub returns-then-stones-q : goal.returns-then-stones-q
returns-then-stones-q c = λ e. absurd (true≢false (sym e))

pub free-requires : goal.free-requires
free-requires c = c.requires c.if-q-ge2704.false

pub returns : goal.returns
returns c = λ e. (record { on = c.requires c.if-q-ge2704.false; is = c.if-stones-q.false }, c.free.ensures.yes-free e)
