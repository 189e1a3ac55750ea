use Rattle.lists.proofs.Prelude.{arith}
use Rattle.feed_apply.proofs.along.pass.Goals as goal

pub seek-requires : goal.seek-requires
seek-requires c = let p = c.requires in
    let s = p.1 in
    (s.ahead p.0, omega (arith, p.0), s.inside, omega (arith, s.paid, s.order))

pub seek-requires-2 : goal.seek-requires-2
seek-requires-2 c = let p = c.requires in
    let s = p.1 in
    (s.ahead p.0, omega (arith, p.0), s.inside, omega (arith, s.paid, s.order))
