use Rattle.lists.proofs.Prelude.{◌-◌, length}
use Rattle.lexer.specs.Token.{lex_at}
use Rattle.salvage_mend.specs.Mend.{gms_among}
use Rattle.salvage_form.proofs.Roots.{Gathered, as_is}
use Rattle.salvage_form.proofs.root.root_game.Given as goal

abbrev pub invariant-loop-i : goal.invariant-loop-i
invariant-loop-i l = Gathered gms_among as_is l.s (lex_at l.s l.from).toks (lex_at l.s l.at).toks l.found l.k

abbrev pub decreases-loop-i : goal.decreases-loop-i
decreases-loop-i l = length l.s - l.at
