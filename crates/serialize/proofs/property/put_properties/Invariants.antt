use Rattle.lists.proofs.Prelude.{◌+◌, ◌-◌, ◌≤◌}
use Rattle.store_bytes.specs.LocalsWrote.{Wrote}
use Rattle.serialize.specs.LocalsWalk.{texts, kept_text}
use Rattle.serialize.proofs.property.put_properties.Given as goal

abbrev pub invariant-loop-i : goal.invariant-loop-i
invariant-loop-i l = (l.i ≤ l.count) × Wrote (texts (λ j. kept_text l.mends l.bad l.text l.properties l.values l.rule (l.first + j)) l.i) l.initial.out l.at l.out l.to

abbrev pub decreases-loop-i : goal.decreases-loop-i
decreases-loop-i l = l.count - l.i
