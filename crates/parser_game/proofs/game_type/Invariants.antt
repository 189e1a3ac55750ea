use Rattle.lists.proofs.Prelude.{◌-◌, length}
use Rattle.lexer.specs.Token.{lex_at}
use Rattle.parser_game.proofs.Gather.{Gathering}
use Rattle.parser_game.proofs.game_type.Given as goal

abbrev pub invariant-loop-i : goal.invariant-loop-i
invariant-loop-i l = Gathering l.s (lex_at l.s l.initial.at).toks (lex_at l.s l.at).toks l.found l.k

abbrev pub decreases-loop-i : goal.decreases-loop-i
decreases-loop-i l = length l.s - l.at
