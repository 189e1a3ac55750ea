use Rattle.lists.proofs.Prelude.{◌≤◌}
use Rattle.board_take.specs.LocalsFlood.{Found, Swept}
use Rattle.board_take.proofs.clear.Given as goal

abbrev pub invariant-loop-place : goal.invariant-loop-place
invariant-loop-place l = Swept (Found l.queue l.place-index) l.colour l.initial.stones l.stones l.taken × (l.taken ≤ l.place-index)
