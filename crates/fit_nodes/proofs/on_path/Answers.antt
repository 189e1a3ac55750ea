use Rattle.lists.proofs.Prelude.{ℕ, refl, sym, ap, ◌∙◌, arith, rules}
use Rattle.fit_nodes.specs.Nodes.{on_path}
use Rattle.fit_nodes.proofs.Parents.{climb-on, climb-none, climb-late, climb-end}
use Rattle.fit_nodes.proofs.on_path.Goals as goal

pub loop-j-init : goal.loop-j-init
loop-j-init c = (search rules, refl)

pub returns-then-parent : goal.returns-then-parent
returns-then-parent c = sym (climb-none _ _ _ c.loop-j-test.true c.if-parent.true) ∙ c.loop-j.invariant.1

pub returns-then-j-up : goal.returns-then-j-up
returns-then-j-up c = let a = c.args in sym (climb-late a.nodes.now _ _ c.loop-j-test.true (let e = c.wide-up.ensures in omega arith)) ∙ c.loop-j.invariant.1

pub loop-j-preserved : goal.loop-j-preserved
loop-j-preserved c = let a = c.args in (
  search rules,
  ap (λ (j : ℕ). on_path a.nodes.now j a.p) c.wide-up.ensures
      ∙ climb-on a.nodes.now _ _ c.loop-j-test.true c.if-parent.false (let e = c.wide-up.ensures in omega arith)
      ∙ c.loop-j.invariant.1,
)

pub returns : goal.returns
returns c = let a = c.args in climb-end a.nodes.now _ _ c.loop-j-test.false ∙ c.loop-j.invariant.1
