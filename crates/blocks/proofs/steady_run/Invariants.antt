use Rattle.blocks.specs.LocalsSteady.{steady_at}
use Rattle.blocks.specs.Room.{room, takes_all}
use Rattle.lists.proofs.Prelude.{◌-◌, ◌≡◌, ◌≤◌, ◌<◌, length, drop}
use Rattle.blocks.proofs.steady_run.Given as goal

abbrev pub invariant-loop-i : goal.invariant-loop-i
invariant-loop-i l = (length l.rows ≡ length l.initial.rows) × (l.from ≤ l.i) × (l.i ≤ length l.bytes) × (0 < l.ink) × (takes_all (room (steady_at l.place l.ink l.p l.n) l.rows) (drop l.i l.bytes) ≡ takes_all (room (steady_at l.at l.last l.initial.p l.count) l.initial.rows) (drop l.from l.bytes))

abbrev pub decreases-loop-i : goal.decreases-loop-i
decreases-loop-i l = length l.bytes - l.i
