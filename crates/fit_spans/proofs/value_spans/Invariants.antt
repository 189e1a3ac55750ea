use Rattle.fit_spans.proofs.Ascents.{Values}
use Rattle.fit_spans.proofs.value_spans.Given as goal

abbrev pub invariant-loop-k : goal.invariant-loop-k
invariant-loop-k l = Values l.values l.used l.from l.v l.m l.k l.next
