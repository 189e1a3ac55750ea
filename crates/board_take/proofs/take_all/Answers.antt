use Rattle.lists.proofs.Prelude.{false≢true, refl}
use Rattle.board_take.proofs.Queue.{held_new}
use Rattle.board_take.proofs.Taking.{not-above, seeded-stone, takes_all}
use Rattle.board_take.proofs.take_all.Goals as goal

pub returns-then-colour-eq0 : goal.returns-then-colour-eq0
returns-then-colour-eq0 c = record { none = λ e. (refl, refl); some = λ f. absurd (f c.if-colour-eq0.true) }

pub seed-n-requires : goal.seed-n-requires
seed-n-requires c = held_new

pub grow-r-requires : goal.grow-r-requires
grow-r-requires c = let a = c.args in (c.seed-n.ensures.held, seeded-stone a.columns a.rows a.colour a.stones.now held_new c.seed-n.ensures)

pub sweep-requires : goal.sweep-requires
sweep-requires c = c.if-colour-eq0.false

pub returns : goal.returns
returns c = let a = c.args in
    let e = c.grow-r.ensures in
    let g = e.ended (not-above c.grow-r.result (λ l. absurd (false≢true (e.stopped l).0))) in
    record { none = λ z. absurd (c.if-colour-eq0.false z); some = λ z. takes_all a.columns a.rows a.colour a.stones.now held_new c.seed-n.ensures g c.sweep.ensures }
