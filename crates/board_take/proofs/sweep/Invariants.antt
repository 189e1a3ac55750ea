use Rattle.lists.proofs.Prelude.{◌<◌, ◌≤◌}
use Rattle.board_take.specs.LocalsFlood.{Unmarked, Swept}
use Rattle.board_take.proofs.sweep.Given as goal

abbrev pub invariant-loop-p : goal.invariant-loop-p
invariant-loop-p l = Swept (λ q. (q < l.p) × Unmarked l.columns l.rows l.initial.stones l.colour l.marks q) l.colour l.initial.stones l.stones l.n
    × (l.n ≤ l.p)
