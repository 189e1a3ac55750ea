use Rattle.edit_answer.proofs.Tested.{owner-first, owner-more, owner-is, owner-none}
use Rattle.lists.proofs.Prelude.{arith}
use Rattle.edit_answer.proofs.is_fixed.Goals as goal

pub loop-p-init : goal.loop-p-init
loop-p-init c = owner-first _ _ _ _

pub overflow_add-first : goal.overflow_add-first
overflow_add-first c = omega (arith, c.wide-count.ensures.1, c.wide-first.ensures.1)

pub slice_bounds-is_gm-count : goal.slice_bounds-is_gm-count
slice_bounds-is_gm-count c = let h = c.requires.1 _ c.loop-p-test.true in omega (arith, c.wide-start.ensures.0, c.wide-end.ensures.0)

pub slice_bounds-is_gm-start : goal.slice_bounds-is_gm-start
slice_bounds-is_gm-start c = let h = c.requires.1 _ c.loop-p-test.true in omega (arith, c.wide-start.ensures.0, c.wide-end.ensures.0)

pub slice_bounds-is_gm-end : goal.slice_bounds-is_gm-end
slice_bounds-is_gm-end c = let h = c.requires.1 _ c.loop-p-test.true in omega (arith, c.wide-start.ensures.0, c.wide-end.ensures.0)

pub returns-then-k-first : goal.returns-then-k-first
returns-then-k-first c = owner-is _ _ _ _ c.loop-p.invariant c.loop-p-test.true (omega (arith, c.if-k-first.true, c.wide-first.ensures.0, c.wide-count.ensures.0)) c.wide-start.ensures.0 c.wide-end.ensures.0 c.is_gm.ensures

pub loop-p-preserved : goal.loop-p-preserved
loop-p-preserved c = owner-more _ _ _ _ c.loop-p.invariant c.loop-p-test.true (omega (arith, c.if-k-first.false, c.wide-first.ensures.0, c.wide-count.ensures.0))

pub returns : goal.returns
returns c = owner-none _ _ _ _ c.loop-p.invariant c.loop-p-test.false
