use Rattle.lists.proofs.Prelude.{refl, arith}
use Rattle.board_take.proofs.Settling.{settled-on, settled-column, settled-all}
use Rattle.board_take.proofs.settled.Goals as goal

pub seen_at-requires : goal.seen_at-requires
seen_at-requires c = let a = c.args in
    (settled-on a.columns a.rows a.stones.now c.loop-x.x c.loop-y.y (omega arith) (omega arith), c.loop-y.invariant)

pub lives-requires : goal.lives-requires
lives-requires c = let a = c.args in
    record { on = settled-on a.columns a.rows a.stones.now c.loop-x.x c.loop-y.y (omega arith) (omega arith); is = refl }

pub loop-x-preserved : goal.loop-x-preserved
loop-x-preserved c = let a = c.args in
    settled-column a.columns a.rows a.stones.now c.loop-x.x c.loop-y.y (omega (arith, c.loop-y-test.false)) c.loop-y.invariant

pub returns : goal.returns
returns c = λ e. let a = c.args in settled-all a.columns a.rows a.stones.now c.loop-x.x (omega (arith, c.loop-x-test.false)) c.loop-x.invariant
