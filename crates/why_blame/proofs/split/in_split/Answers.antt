use Rattle.lists.proofs.Prelude.{sym, ap, ◌∙◌, Bool}
use Rattle.lexer.specs.Token.{lex_at}
use Rattle.why_blame.specs.Cuts.{tokens_cut}
use Rattle.why_blame.proofs.split.in_split.Goals as goal

pub returns-then-lenient : goal.returns-then-lenient
returns-then-lenient c = c.split_lenient.ensures ∙ ap (λ (z : Bool). tokens_cut z c.args.size c.args.s.now (lex_at c.args.s.now c.args.from) (lex_at c.args.s.now c.args.from).end) (sym c.if-lenient.true)

pub returns : goal.returns
returns c = c.split_strict.ensures ∙ ap (λ (z : Bool). tokens_cut z c.args.size c.args.s.now (lex_at c.args.s.now c.args.from) (lex_at c.args.s.now c.args.from).end) (sym c.if-lenient.false)
