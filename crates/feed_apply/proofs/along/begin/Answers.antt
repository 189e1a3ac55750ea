use Rattle.lists.proofs.Prelude.{sym, ◌∙◌, arith}
use Rattle.feed_numerals.proofs.Groups.{numeral-within}
use Rattle.feed_apply.proofs.Walking.{ahead-broken, ahead-count}
use Rattle.feed_apply.proofs.along.begin.Goals as goal

pub seek-requires : goal.seek-requires
seek-requires c = let a = c.args in
    (ahead-broken a.feed.now a.n (sym c.read_numeral.ensures.0 ∙ c.in-None.is), omega arith, omega arith, omega arith)

pub seek-requires-in-Some : goal.seek-requires-in-Some
seek-requires-in-Some c = let a = c.args in
    let e = sym c.read_numeral.ensures.0 ∙ c.in-Some.is in
    (ahead-count a.feed.now a.n c.in-Some.count c.in-Some.size e, omega arith, omega (arith, numeral-within a.feed.now 0 c.in-Some.count c.in-Some.size e), omega arith)
