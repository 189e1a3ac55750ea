use Rattle.lists.proofs.Prelude.{◌≡◌, ap, ◌∙◌, arith}
use Rattle.feed_apply.specs.LocalsSizes.{grown_to, shrunk_to}
use Rattle.feed_apply.proofs.Sizes.{tallied-begin}
use Rattle.feed_apply.proofs.rows.measure.Goals as goal

pub reach-requires : goal.reach-requires
reach-requires c = let a = c.args in
    let p = c.requires in
    let b = c.begin.ensures in
    (p.0, p.1, omega arith, tallied-begin a.values.now a.feed.now b, λ j x y. absurd (omega (arith, x, y, b.0.bound)))

pub returns : goal.returns
returns c = let a = c.args in
    let r = c.reach.ensures in
    let t = r.1 in
    let e : c.reach.result.due ≡ a.n = omega (arith, r.0, t.stands.bound) in
    (t.grown ∙ ap (grown_to a.values.now a.feed.now) e, t.shrunk ∙ ap (shrunk_to a.values.now a.feed.now) e)
