use Rattle.lists.proofs.Prelude.{arith, length-set}
use Rattle.serialize_values.proofs.Boxed.{pair-wrote}
use Rattle.serialize_values.proofs.put_pair.Goals as goal

pub bounds-out-at-2 : goal.bounds-out-at-2
bounds-out-at-2 c = simp length-set (omega arith)

pub bounds-out-at-3 : goal.bounds-out-at-3
bounds-out-at-3 c = simp length-set (omega arith)

pub bounds-out-at-4 : goal.bounds-out-at-4
bounds-out-at-4 c = simp length-set (omega arith)

pub returns : goal.returns
returns c = let args = c.args in
    let good = c.well_formed in
    let room = c.if-out-at-lt4.false in
    let inside = c.if-out-at.false in
    pair-wrote args.value.now args.out.now args.at c.requires (omega (arith, room, inside)) (omega (arith, good))
