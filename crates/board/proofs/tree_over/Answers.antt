use Rattle.lists.proofs.Prelude.{ℕ, ◌<◌, ◌≤◌, ◌≡◌, sym, ap, ◌∙◌, subst, arith}
use Rattle.board.specs.Answer.{tree_over}
use Rattle.board.proofs.Trees.{over-here, over-on, over_none}
use Rattle.board.proofs.tree_over.Goals as goal

pub returns-then-wide-k : goal.returns-then-wide-k
returns-then-wide-k c = let a = c.args in
    let l = c.loop-t in
    let here = subst (λ (z : ℕ). z ≤ a.k) c.wide.ensures c.if-wide-k.true in
    over-here a.trees.now a.k l.t c.loop-t-test.true here ∙ l.invariant

pub loop-t-preserved : goal.loop-t-preserved
loop-t-preserved c = let a = c.args in
    let l = c.loop-t in
    let behind = subst (λ (z : ℕ). a.k < z) c.wide.ensures c.if-wide-k.false in
    over-on a.trees.now a.k l.t c.loop-t-test.true behind ∙ l.invariant

pub returns : goal.returns
returns c = let a = c.args in
    let l = c.loop-t in
    let e : l.t ≡ 0 = omega (arith, c.loop-t-test.false) in
    sym (over_none a.trees.now a.k) ∙ (ap (tree_over a.trees.now a.k) (sym e) ∙ l.invariant)
