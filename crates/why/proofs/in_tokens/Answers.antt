use Rattle.lexer.specs.Token.{lex_at}
use Rattle.why.proofs.Texts.{sought-wrong, sought-lenient, slices-ready, sought-slices}
use Rattle.why.proofs.in_tokens.Goals as goal

pub returns-then-lenient : goal.returns-then-lenient
returns-then-lenient c = sought-lenient c.args.lenient c.args.size c.args.s.now (lex_at c.args.s.now c.args.from) (lex_at c.args.s.now c.args.from).end c.if-lenient.true c.in_split.ensures c.in-Ok.is

pub in_slices-requires : goal.in_slices-requires
in_slices-requires c = slices-ready c.args.lenient c.args.s.now c.args.from c.args.size c.if-lenient.false c.in_split.ensures c.in-Ok.is c.requires.0 c.requires.1

pub returns-in-Err : goal.returns-in-Err
returns-in-Err c = sought-wrong c.args.lenient c.args.size c.args.s.now (lex_at c.args.s.now c.args.from) (lex_at c.args.s.now c.args.from).end _ c.in_split.ensures c.in-Err.is

pub returns-in-Some : goal.returns-in-Some
returns-in-Some c = sought-slices c.args.lenient c.args.s.now c.args.from c.args.size c.if-lenient.false c.in_split.ensures c.in-Ok.is c.in_slices.ensures c.in-Some.is

pub returns-in-None : goal.returns-in-None
returns-in-None c = sought-slices c.args.lenient c.args.s.now c.args.from c.args.size c.if-lenient.false c.in_split.ensures c.in-Ok.is c.in_slices.ensures c.in-None.is
