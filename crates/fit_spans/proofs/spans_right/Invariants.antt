use Rattle.fit_spans.proofs.Ascents.{spanning}
use Rattle.fit_spans.specs.Spans.{spans, ascending, name_right}
use Rattle.tables.specs.Each.{each}
use Rattle.lists.proofs.Prelude.{◌≡◌, true, length}
use Rattle.fit_spans.proofs.spans_right.Given as goal

abbrev pub invariant-loop-k : goal.invariant-loop-k
invariant-loop-k l = (spanning l.properties l.values l.n (length l.text) l.next l.k ≡ ascending (length l.text) 0 (spans l.properties l.values 0 l.n)) × (each l.k (name_right l.text l.properties) ≡ true)
