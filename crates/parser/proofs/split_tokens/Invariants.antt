use Rattle.lists.proofs.Prelude.{◌-◌, length}
use Rattle.lexer.specs.Token.{lex_at}
use Rattle.parser.proofs.Splits.{Splitting-at}
use Rattle.parser.proofs.split_tokens.Given as goal

abbrev pub invariant-loop-i : goal.invariant-loop-i
invariant-loop-i l = Splitting-at (length l.s) (lex_at l.s l.from) (lex_at l.s l.at) l.at l.depth l.deepest l.n

abbrev pub decreases-loop-i : goal.decreases-loop-i
decreases-loop-i l = length l.s - l.at
