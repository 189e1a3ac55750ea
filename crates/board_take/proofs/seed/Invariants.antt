use Rattle.board_take.specs.LocalsFlood.{Went, Seed}
use Rattle.board_take.proofs.seed.Given as goal

abbrev pub invariant-loop-p : goal.invariant-loop-p
invariant-loop-p l = Went (Seed l.columns l.rows l.stones l.colour l.p) l.initial.marks l.initial.queue 0 l.marks l.queue l.n
