use Rattle.reader.proofs.Plants.{Planting}
use Rattle.lexer.specs.Token.{lex_at}
use Rattle.reader.specs.Lent.{lent}
use Rattle.reader.proofs.slices.read_trees.Given as goal

abbrev pub invariant-loop-k : goal.invariant-loop-k
invariant-loop-k l = Planting l.lenient l.go l.s (lex_at l.s l.from).toks l.count (lent l.initial.trees l.initial.nodes l.initial.properties l.initial.values) (lent l.trees l.nodes l.properties l.values) l.at l.n l.p l.v l.k
