use Rattle.salvage_list.proofs.Going.{Standing}
use Rattle.lists.proofs.Prelude.{◌-◌, length}
use Rattle.salvage_list.proofs.walk.walk_slice.Given as goal

abbrev pub invariant-loop-i : goal.invariant-loop-i
invariant-loop-i l = Standing l.s l.from l.base l.p0 l.e0 l.initial.rows l.stack l.at l.depth l.cur l.n l.follows l.bad l.p l.e l.rows

abbrev pub decreases-loop-i : goal.decreases-loop-i
decreases-loop-i l = length l.s - l.at
