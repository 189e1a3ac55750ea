use Rattle.blocks.proofs.Inks.{steady-known}
use Rattle.lists.proofs.Tests.{and_both}
use Rattle.lists.proofs.Prelude.{◌≡◌, ◌&&◌, not, true, eqb, eqb-true, eqb-false, not-true, rules}
use Rattle.blocks.proofs.is_steady.Goals as goal

pub returns : goal.returns
returns c = λ e.
    let k = c.args.k in
    let x = and_both (not (eqb k.last 0) && eqb k.held k.count) c.eq.result e in
    let y = and_both (not (eqb k.last 0)) (eqb k.held k.count) x.0 in
    let u : c.eq.result ≡ true = x.1 in
    let h : k.now ≡ k.kept = search (rules, u, c.eq.ensures) in
    steady-known k (eqb-false k.last 0 (not-true (eqb k.last 0) y.0)) (eqb-true k.held k.count y.1) h c.in-Whole.is
