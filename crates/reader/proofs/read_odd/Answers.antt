use Rattle.lists.proofs.Prelude.{arith, refl, length-take-le}
use Rattle.parser.specs.Read.{read}
use Rattle.reader.proofs.Surveyed.{PlanIs, read_as}
use Rattle.reader.proofs.Texts.{planned}
use Rattle.reader.proofs.read_odd.Goals as goal
use Rattle.std.specs.Prelude.{Ok}

pub slice_bounds-read_slices-end : goal.slice_bounds-read_slices-end
slice_bounds-read_slices-end c = let l = length-take-le c.in-Ok.last c.args.text.now (let plan-is : PlanIs c.args.lenient c.args.text.now (read c.args.lenient c.args.text.now) (Ok (c.in-Ok.first, c.in-Ok.last, c.in-Ok.count)) = planned c.args.lenient c.args.text.now c.plan_text.ensures c.in-Ok.is in plan-is).2 in omega arith

pub read_slices-requires : goal.read_slices-requires
read_slices-requires c = (let plan-is : PlanIs c.args.lenient c.args.text.now (read c.args.lenient c.args.text.now) (Ok (c.in-Ok.first, c.in-Ok.last, c.in-Ok.count)) = planned c.args.lenient c.args.text.now c.plan_text.ensures c.in-Ok.is in plan-is).1

pub returns-in-Err : goal.returns-in-Err
returns-in-Err c = read_as (planned c.args.lenient c.args.text.now c.plan_text.ensures c.in-Err.is) (record { answer = refl; tables = refl })

pub shape_of-trees : goal.shape_of-trees
shape_of-trees c = c.trees-1.given

pub shape_of-nodes : goal.shape_of-nodes
shape_of-nodes c = c.nodes-1.given

pub shape_of-properties : goal.shape_of-properties
shape_of-properties c = c.properties-1.given

pub shape_of-values : goal.shape_of-values
shape_of-values c = c.values-1.given

pub returns-in-Ok : goal.returns-in-Ok
returns-in-Ok c = read_as (let plan-is : PlanIs c.args.lenient c.args.text.now (read c.args.lenient c.args.text.now) (Ok (c.in-Ok.first, c.in-Ok.last, c.in-Ok.count)) = planned c.args.lenient c.args.text.now c.plan_text.ensures c.in-Ok.is in plan-is).0 c.read_slices.ensures
