use Rattle.lists.proofs.Prelude.{length, ◌≡◌, ◌-◌}
use Rattle.cases_edits.proofs.run.Given as goal

abbrev pub invariant-loop-at : goal.invariant-loop-at
invariant-loop-at l = (length l.text ≡ 64) × (length l.trees ≡ 8) × (length l.nodes ≡ 80) × (length l.properties ≡ 64) × (length l.values ≡ 32) × (length l.log ≡ 1024) × (length l.heads ≡ 32)

abbrev pub decreases-loop-at : goal.decreases-loop-at
decreases-loop-at l = length l.s - l.at
