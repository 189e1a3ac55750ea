use Rattle.lists.proofs.Prelude.{ℕ, ◌≡◌, arith, subst}
use Rattle.feed_check.specs.LocalsOwner.{Behind}
use Rattle.feed_check.proofs.Owned.{behind_more}
use Rattle.feed_check.proofs.owner_from.Goals as goal

pub loop-p-init : goal.loop-p-init
loop-p-init c = c.requires.1

pub returns-then-k-first : goal.returns-then-k-first
returns-then-k-first c = (c.loop-p.invariant, λ l. omega (arith, c.if-k-first.true, c.wide-first.ensures, c.wide-count.ensures))

pub loop-p-preserved : goal.loop-p-preserved
loop-p-preserved c = let a = c.args in
    let l = c.loop-p in
    behind_more a.properties.now a.n l.p a.k l.invariant c.loop-p-test.true (omega (arith, c.if-k-first.false, c.wide-first.ensures, c.wide-count.ensures))

pub returns : goal.returns
returns c = let a = c.args in
    let l = c.loop-p in
    let e : l.p ≡ a.n = omega (arith, l.invariant.0, c.loop-p-test.false) in
    (subst (λ (p : ℕ). Behind a.properties.now a.n p a.k) e l.invariant, λ h. absurd (omega (arith, h)))
