use Rattle.lists.proofs.Prelude.{ap, ◌∙◌, arith}
use Rattle.store_bytes.proofs.Written.{wrote-length}
use Rattle.go.specs.Normal.{points_from}
use Rattle.serialize_values.specs.LocalsForm.{raws_text}
use Rattle.serialize_values.proofs.Boxed.{points-next, points-end}
use Rattle.serialize_values.proofs.Writing.{writing-first, writing-is, writing-next, writing-end}
use Rattle.serialize_values.proofs.put_points.Goals as goal

pub loop-i-init : goal.loop-i-init
loop-i-init c = let args = c.args in
    let good = c.well_formed in
    (writing-first (raws_text (points_from 0 args.marks.now)) args.out.now args.at (omega (arith, good)) (omega (arith, good)), c.requires)

pub past_unmarked-n-requires : goal.past_unmarked-n-requires
past_unmarked-n-requires c = (c.loop-i-test.true, c.loop-i.invariant.1)

pub bounds-marks-n : goal.bounds-marks-n
bounds-marks-n c = let h = c.past_unmarked-n.ensures.1 in omega arith

pub put_marked-to-requires : goal.put_marked-to-requires
put_marked-to-requires c = c.past_unmarked-n.ensures.1

pub overflow_add-i : goal.overflow_add-i
overflow_add-i c = let h = c.past_unmarked-n.ensures.1 in omega arith

pub loop-i-smaller : goal.loop-i-smaller
loop-i-smaller c = let n = c.past_unmarked-n.ensures.0 in
    let h = c.loop-i-test.true in
    omega arith

pub loop-i-preserved : goal.loop-i-preserved
loop-i-preserved c = let loop = c.loop-i in
    let n = c.past_unmarked-n in
    let here = ap raws_text n.ensures.2 ∙ points-next c.args.marks.now n.result (omega (arith, loop.invariant.1, n.ensures.1)) in
    (writing-next c.put_marked-to.ensures (writing-is here loop.invariant.0), loop.invariant.1)

pub shape_of-out : goal.shape_of-out
shape_of-out c = wrote-length c.loop-i.invariant.0.wrote

pub returns : goal.returns
returns c = let loop = c.loop-i in
    writing-end (writing-is (points-end c.args.marks.now loop.i (omega (arith, loop.invariant.1, c.loop-i-test.false))) loop.invariant.0)
