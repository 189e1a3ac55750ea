use Rattle.lists.proofs.Prelude.{◌≡◌, ◌-◌, ◌<◌}
use Rattle.ask.proofs.Search.{tree_on}
use Rattle.ask.specs.Locals.{tree_from}
use Rattle.ask_simple.proofs.game_of.Given as goal

abbrev pub invariant-loop-r : goal.invariant-loop-r
invariant-loop-r l = (l.r < l.m) × (tree_on l.trees l.nodes l.p l.m l.r ≡ tree_from l.trees l.nodes l.p 0 (l.m - 1))

abbrev pub decreases-loop-r : goal.decreases-loop-r
decreases-loop-r l = l.m - l.r
