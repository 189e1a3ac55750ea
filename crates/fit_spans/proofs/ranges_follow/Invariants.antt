use Rattle.lists.proofs.Prelude.{◌*◌, ◌+◌, ◌≡◌, true, leb, get_or}
use Rattle.tables.specs.Each.{each}
use Rattle.fit_spans.proofs.Ranges.{Ranged}
use Rattle.fit_spans.proofs.ranges_follow.Given as goal

abbrev pub invariant-loop-k : goal.invariant-loop-k
invariant-loop-k l = Ranged (λ j. get_or l.table (j * l.stride + l.first) 0) (λ j. get_or l.table (j * l.stride + l.count) 0) l.n l.total l.sum l.k × (each l.k (λ j. leb l.least (get_or l.table (j * l.stride + l.count) 0)) ≡ true)
