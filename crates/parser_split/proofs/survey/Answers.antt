use Rattle.lists.proofs.Prelude.{sym, ap, ◌∙◌, Bool}
use Rattle.lexer.specs.Token.{lex_at}
use Rattle.parser.specs.LocalsSurvey.{survey_of}
use Rattle.parser_split.proofs.survey.Goals as goal

pub returns-then-lenient : goal.returns-then-lenient
returns-then-lenient c = c.survey_lenient.ensures ∙ (ap (λ (z : Bool). survey_of z (lex_at c.args.s.now c.args.from)) (sym c.if-lenient.true))

pub returns : goal.returns
returns c = c.survey_strict.ensures ∙ (ap (λ (z : Bool). survey_of z (lex_at c.args.s.now c.args.from)) (sym c.if-lenient.false))
