use Rattle.lists.proofs.Prelude.{◌-◌, ◌≡◌, length}
use Rattle.lexer.specs.Token.{lex_at}
use Rattle.why_blame.proofs.split.first_fault.Given as goal

abbrev pub invariant-loop-f : goal.invariant-loop-f
invariant-loop-f l = (lex_at l.s l.from).end ≡ (lex_at l.s l.at).end

abbrev pub decreases-loop-f : goal.decreases-loop-f
decreases-loop-f l = length l.s - l.at
