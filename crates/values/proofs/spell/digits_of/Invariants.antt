use Rattle.lists.proofs.Prelude.{◌≤◌, ◌≡◌, length, drop}
use Rattle.values.specs.Decimal.{spell, decimal}
use Rattle.values.proofs.spell.digits_of.Given as goal

abbrev pub invariant-loop-i : goal.invariant-loop-i
invariant-loop-i l = (spell l.i l.rest (drop l.i l.bytes) ≡ decimal l.n) × (l.i ≤ 20) × (length l.bytes ≡ 20)

abbrev pub decreases-loop-i : goal.decreases-loop-i
decreases-loop-i l = l.i
