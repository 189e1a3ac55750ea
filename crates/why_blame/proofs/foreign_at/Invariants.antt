use Rattle.lists.proofs.Prelude.{◌≡◌, ◌≤◌, max, length, drop}
use Rattle.why_blame.specs.Cuts.{foreign_from}
use Rattle.why_blame.proofs.foreign_at.Given as goal

abbrev pub invariant-loop-i : goal.invariant-loop-i
invariant-loop-i l = (foreign_from l.i (drop l.i l.s) ≡ foreign_from l.from (drop l.from l.s)) × (l.i ≤ max l.from (length l.s))
