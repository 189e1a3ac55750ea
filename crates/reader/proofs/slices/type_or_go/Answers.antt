use Rattle.lexer.specs.Token.{lex_at}
use Rattle.parser.specs.LocalsSlice.{slice_from}
use Rattle.parser.specs.Game.{find_gametype}
use Rattle.reader.proofs.Kinded.{type-is, type-go, type-refused}
use Rattle.reader.proofs.slices.type_or_go.Goals as goal

pub returns-then-lenient : goal.returns-then-lenient
returns-then-lenient c = type-go (find_gametype (slice_from 0 (lex_at c.args.s.now c.args.at).toks)) c.game_type.ensures _ _ c.in-Err.is c.if-lenient.true

pub returns-in-Ok : goal.returns-in-Ok
returns-in-Ok c = type-is (find_gametype (slice_from 0 (lex_at c.args.s.now c.args.at).toks)) c.game_type.ensures c.args.lenient _ c.in-Ok.is

pub returns-else-lenient : goal.returns-else-lenient
returns-else-lenient c = type-refused (find_gametype (slice_from 0 (lex_at c.args.s.now c.args.at).toks)) c.game_type.ensures _ _ c.in-Err.is c.if-lenient.false
