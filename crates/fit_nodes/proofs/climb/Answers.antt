use Rattle.lists.proofs.Prelude.{sym, ◌∙◌, arith, rules}
use Rattle.fit_nodes.proofs.Climbs.{climb-self, climb-first, climb-in, climb-less, climb-root, climb-child, climb-bad, climb-up}
use Rattle.fit_nodes.proofs.climb.Goals as goal

pub overflow_sub-j : goal.overflow_sub-j
overflow_sub-j c = let s = c.requires.1.some in search rules

pub returns-then-j-wide : goal.returns-then-j-wide
returns-then-j-wide c = climb-self c.requires.1 (c.if-j-wide.true ∙ c.wide.ensures)

pub loop-n-init : goal.loop-n-init
loop-n-init c = (c.requires.0, climb-first c.requires.1 (λ z. c.if-j-wide.false (z ∙ sym c.wide.ensures)))

pub overflow_mul-parent : goal.overflow_mul-parent
overflow_mul-parent c = let h = climb-in c.loop-n.invariant.1 in search rules

pub offset_bounds-nodes-j : goal.offset_bounds-nodes-j
offset_bounds-nodes-j c = let h = climb-in c.loop-n.invariant.1 in search rules

pub bounds-nodes-j : goal.bounds-nodes-j
bounds-nodes-j c = let h = climb-in c.loop-n.invariant.1 in search rules

pub overflow_mul-sibling : goal.overflow_mul-sibling
overflow_mul-sibling c = let h = climb-in c.loop-n.invariant.1 in search rules

pub overflow_add-sibling : goal.overflow_add-sibling
overflow_add-sibling c = let h = climb-in c.loop-n.invariant.1 in search rules

pub offset_bounds-nodes-j-in-loop-n : goal.offset_bounds-nodes-j-in-loop-n
offset_bounds-nodes-j-in-loop-n c = let h = climb-in c.loop-n.invariant.1 in search rules

pub bounds-nodes-j-in-loop-n : goal.bounds-nodes-j-in-loop-n
bounds-nodes-j-in-loop-n c = let h = climb-in c.loop-n.invariant.1 in search rules

pub returns-then-p-eq-NONE : goal.returns-then-p-eq-NONE
returns-then-p-eq-NONE c = climb-root c.loop-n.invariant.1 c.if-parent-p.true c.if-p-eq-NONE.true

pub returns-then-parent-p : goal.returns-then-parent-p
returns-then-parent-p c = climb-child c.loop-n.invariant.1 c.if-parent-p.true c.if-p-eq-NONE.false c.wide-then-parent-p.ensures

pub returns-then-sibling : goal.returns-then-sibling
returns-then-sibling c = climb-bad c.loop-n.invariant.1 c.if-parent-p.false c.if-sibling.true

pub loop-n-smaller : goal.loop-n-smaller
loop-n-smaller c = omega (arith, (climb-less c.loop-n.invariant.1 c.if-parent-p.false).0, c.wide-j.ensures)

pub loop-n-preserved : goal.loop-n-preserved
loop-n-preserved c = (c.loop-n.invariant.0, climb-up c.loop-n.invariant.1 c.if-parent-p.false c.if-sibling.false c.wide-j.ensures)
