use Rattle.lists.proofs.Prelude.{ℕ, ◌-◌, ◌≤◌, ◌<◌, ◌≡◌, false}
use Rattle.serialize.specs.LocalsWalk.{corner_end}
use Rattle.serialize.proofs.walk.any_corner.Given as goal

abbrev pub invariant-loop-v : goal.invariant-loop-v
invariant-loop-v l = (l.v ≤ l.n) × ((i : ℕ) → i < l.v → corner_end l.text l.values i ≡ false)

abbrev pub decreases-loop-v : goal.decreases-loop-v
decreases-loop-v l = l.n - l.v
