use Rattle.lists.proofs.Prelude.{◌-◌, ◌≡◌, length}
use Rattle.lexer.specs.Token.{lex_at}
use Rattle.parser.specs.Game.{props, props_named, GM}
use Rattle.why_blame.proofs.game.find_gm.Given as goal

abbrev pub invariant-loop-i : goal.invariant-loop-i
invariant-loop-i l = props_named GM (props (lex_at l.s l.from).toks) ≡ props_named GM (props (lex_at l.s l.at).toks)

abbrev pub decreases-loop-i : goal.decreases-loop-i
decreases-loop-i l = length l.s - l.at
