use Rattle.salvage_list.proofs.Gms.{Gathered}
use Rattle.lexer.specs.Token.{lex_at}
use Rattle.lists.proofs.Prelude.{◌-◌, length}
use Rattle.salvage_list.proofs.walk.bad_root.Given as goal

abbrev pub invariant-loop-i : goal.invariant-loop-i
invariant-loop-i l = Gathered l.s (lex_at l.s l.from).toks (lex_at l.s l.at).toks l.found l.k

abbrev pub decreases-loop-i : goal.decreases-loop-i
decreases-loop-i l = length l.s - l.at
