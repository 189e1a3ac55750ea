use Rattle.blocks.specs.Room.{room, takes_all}
use Rattle.lists.proofs.Prelude.{◌≡◌, ◌-◌, length, drop}
use Rattle.blocks.proofs.block.Given as goal

abbrev pub invariant-loop-went : goal.invariant-loop-went
invariant-loop-went l = (length l.rows ≡ length l.initial.rows) × (takes_all (room l.went.known l.rows) (drop l.went.to l.bytes) ≡ takes_all (room l.initial.went.known l.initial.rows) l.bytes)

abbrev pub decreases-loop-went : goal.decreases-loop-went
decreases-loop-went l = length l.bytes - l.went.to
