use Rattle.lists.proofs.Prelude.{sym, ap, ◌∙◌}
use Rattle.lexer.specs.Token.{lex_at}
use Rattle.why_blame.specs.Cuts.{cut_tokens}
use Rattle.why.specs.Why.{tokens_blame, cut_loose}
use Rattle.why.specs.LocalsSought.{sought_by, sought_in}
use Rattle.why.proofs.in_part.Goals as goal
use Rattle.std.specs.Prelude.{Option, ℕ}

pub in_tokens-requires : goal.in_tokens-requires
in_tokens-requires c = c.requires

pub returns-in-Some : goal.returns-in-Some
returns-in-Some c = ap (λ (z : Option (ℕ × ℕ × ℕ × ℕ)). sought_in z c.args.size (sought_by (tokens_blame c.args.lenient c.args.size c.args.s.now (lex_at c.args.s.now c.args.from) (lex_at c.args.s.now c.args.from).end) (cut_loose c.args.size (cut_tokens c.args.lenient c.args.size (lex_at c.args.s.now c.args.from))))) (sym c.in-Some.is ∙ c.take_census.ensures)

pub returns-in-None : goal.returns-in-None
returns-in-None c = c.in_tokens.ensures ∙ ap (λ (z : Option (ℕ × ℕ × ℕ × ℕ)). sought_in z c.args.size (sought_by (tokens_blame c.args.lenient c.args.size c.args.s.now (lex_at c.args.s.now c.args.from) (lex_at c.args.s.now c.args.from).end) (cut_loose c.args.size (cut_tokens c.args.lenient c.args.size (lex_at c.args.s.now c.args.from))))) (sym c.in-None.is ∙ c.take_census.ensures)
