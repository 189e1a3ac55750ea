use Rattle.lists.proofs.Prelude.{◌≤◌, ◌≡◌, length, take, sets}
use Rattle.store_bytes.proofs.copy.Given as goal

abbrev pub invariant-loop-i : goal.invariant-loop-i
invariant-loop-i l = (l.out ≡ sets l.initial.out l.at (take l.i l.s)) × (length l.out ≡ length l.initial.out) × (l.i ≤ length l.s)
