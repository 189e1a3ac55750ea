use Rattle.lists.proofs.Prelude.{◌-◌, ◌≤◌, ◌≡◌, false, length, drop}
use Rattle.values.specs.Read.{read_value}
use Rattle.values.specs.Decimal.{digits_from}
use Rattle.values.proofs.decimal.digits_at.Given as goal

abbrev pub invariant-loop-b : goal.invariant-loop-b
invariant-loop-b l = (digits_from l.any l.minus l.most l.acc (read_value (drop l.at l.s)) ≡ digits_from false l.minus l.most 0 (read_value (drop l.from l.s))) × (l.acc ≤ l.most)

abbrev pub decreases-loop-b : goal.decreases-loop-b
decreases-loop-b l = length l.s - l.at
