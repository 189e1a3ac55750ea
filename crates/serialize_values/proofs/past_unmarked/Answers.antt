use Rattle.lists.proofs.Prelude.{refl, ◌∙◌, arith}
use Rattle.serialize_values.proofs.Plain.{points-skip}
use Rattle.serialize_values.proofs.past_unmarked.Goals as goal

pub loop-at-init : goal.loop-at-init
loop-at-init c = let pre = c.requires in (omega arith, pre.0, refl, pre.1)

pub overflow_add-at : goal.overflow_add-at
overflow_add-at c = let h = c.loop-at.invariant.1 in omega arith

pub any_marked-requires : goal.any_marked-requires
any_marked-requires c = let h = c.loop-at-test.true in (omega arith, c.loop-at.invariant.3)

pub returns-then-any_marked : goal.returns-then-any_marked
returns-then-any_marked c = let v = c.loop-at.invariant in (v.0, v.1, v.2)

pub overflow_add-at-in-loop-at : goal.overflow_add-at-in-loop-at
overflow_add-at-in-loop-at c = let h = c.loop-at.invariant.1 in omega arith

pub loop-at-smaller : goal.loop-at-smaller
loop-at-smaller c = let h = c.loop-at-test.true in omega arith

pub loop-at-preserved : goal.loop-at-preserved
loop-at-preserved c = let h = c.loop-at-test.true in
    let v = c.loop-at.invariant in
    (omega (arith, v.0), omega arith, v.2 ∙ points-skip 64 c.args.marks.now c.loop-at.at (omega (arith, v.3)) (c.any_marked.ensures c.if-any_marked.false), v.3)

pub returns : goal.returns
returns c = let v = c.loop-at.invariant in (v.0, v.1, v.2)
