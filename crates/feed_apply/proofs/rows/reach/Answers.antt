use Rattle.lists.proofs.Prelude.{arith}
use Rattle.tables.specs.Numbers.{text_limit}
use Rattle.feed_apply.proofs.Sizes.{shrunk-start, tallied-pass}
use Rattle.feed_apply.proofs.rows.reach.Goals as goal

pub loop-t-init : goal.loop-t-init
loop-t-init c = let p = c.requires in (p.3, p.4)

pub size_of-old-requires : goal.size_of-old-requires
size_of-old-requires c = let p = c.requires in
    let l = c.loop-t-test.true in
    (omega (arith, p.0, p.2, l), p.1.order c.loop-t.t.due (omega (arith, p.2, l)))

pub pass-t-requires : goal.pass-t-requires
pass-t-requires c = let a = c.args in
    let p = c.requires in
    let t = c.loop-t.t in
    let i = c.loop-t.invariant in
    let l = c.loop-t-test.true in
    let b = shrunk-start a.values.now a.feed.now a.n text_limit p.1 t.due (omega (arith, p.2, l)) in (
      omega (arith, p.2, l),
      i.0.stands,
      omega (arith, i.0.shrunk, b, c.size_of-old.ensures, p.1.order t.due (omega (arith, p.2, l)), p.1.inside t.due (omega (arith, p.2, l))),
    )

pub loop-t-smaller : goal.loop-t-smaller
loop-t-smaller c = let p = c.requires in
    omega (arith, p.2, c.loop-t-test.true, c.pass-t.ensures.2)

pub loop-t-preserved : goal.loop-t-preserved
loop-t-preserved c = let a = c.args in
    let p = c.requires in
    let i = c.loop-t.invariant in
    let l = c.loop-t-test.true in (
      tallied-pass a.values.now a.feed.now i.0 (omega (arith, p.2, l)) c.size_of-old.ensures c.pass-t.ensures,
      λ j h k. c.pass-t.ensures.1 j (omega (arith, l, h)) k,
    )

pub returns : goal.returns
returns c = let i = c.loop-t.invariant in (omega (arith, c.loop-t-test.false), i.0, i.1)
