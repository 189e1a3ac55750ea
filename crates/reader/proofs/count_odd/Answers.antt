use Rattle.lists.proofs.Prelude.{arith, refl, length-take-le}
use Rattle.reader.proofs.Whole.{count-as}
use Rattle.reader.proofs.Texts.{planned}
use Rattle.reader.proofs.count_odd.Goals as goal

pub slice_bounds-count_slices-end : goal.slice_bounds-count_slices-end
slice_bounds-count_slices-end c = let l = length-take-le c.in-Ok.last c.args.text.now (planned c.args.lenient c.args.text.now c.plan_text.ensures c.in-Ok.is).2 in omega arith

pub count_slices-requires : goal.count_slices-requires
count_slices-requires c = (planned c.args.lenient c.args.text.now c.plan_text.ensures c.in-Ok.is).1

pub returns-in-Err : goal.returns-in-Err
returns-in-Err c = count-as (planned c.args.lenient c.args.text.now c.plan_text.ensures c.in-Err.is) refl

pub returns-in-Ok : goal.returns-in-Ok
returns-in-Ok c = count-as (planned c.args.lenient c.args.text.now c.plan_text.ensures c.in-Ok.is).0 c.count_slices.ensures
