use Rattle.lists.proofs.Prelude.{true, ◌≡◌}
use Rattle.tables.specs.Each.{each}
use Rattle.fit_spans.specs.Spans.{value_right}
use Rattle.fit_spans.proofs.values_right.Given as goal

abbrev pub invariant-loop-k : goal.invariant-loop-k
invariant-loop-k l = (each l.k (value_right l.text l.values) ≡ true)
