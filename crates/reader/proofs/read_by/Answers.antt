use Rattle.lists.proofs.Prelude.{arith, length-take-le}
use Rattle.reader.proofs.Simple.{known_is, known-inside, known-plan, known-ready}
use Rattle.reader.proofs.Surveyed.{read_as}
use Rattle.reader.proofs.read_by.Goals as goal

pub slice_bounds-fill-end : goal.slice_bounds-fill-end
slice_bounds-fill-end c = let l = length-take-le c.in-Some.last c.args.text.now (known-inside (known_is c.args.text.now c.requires c.in-Some.is)) in omega arith

pub fill-requires : goal.fill-requires
fill-requires c = known-ready (known_is c.args.text.now c.requires c.in-Some.is) c.args.lenient

pub returns-in-Some : goal.returns-in-Some
returns-in-Some c = read_as (known-plan (known_is c.args.text.now c.requires c.in-Some.is) c.args.lenient).0 c.fill.ensures
