use Rattle.lists.proofs.Prelude.{sym, ap, ◌∙◌, ◌≡◌, ℕ, List, length, arith}
use Rattle.lexer.specs.declared.Step.{Step}
use Rattle.lexer.specs.Step.{next_at, step_on}
use Rattle.lexer.specs.Token.{Lexed, lex_at}
use Rattle.lexer.proofs.Within.{found_within}
use Rattle.parser.proofs.Meets.{meets}
use Rattle.parser_game.specs.LocalsGame.{behind_of, goes_on_at}
use Rattle.parser_game.proofs.Gather.{past-toks}
use Rattle.parser_game.proofs.behind.Goals as goal

on : (u : List ℕ) (i : ℕ) {r x : Step} → r ≡ next_at u i → r ≡ x → goes_on_at (length u) x ≡ goes_on_at (length u) (next_at u i)
on u i e g = ap (goes_on_at (length u)) (sym g ∙ e)

went : (u : List ℕ) (i : ℕ) {r x : Step} → r ≡ next_at u i → r ≡ x → behind_of (step_on u x).toks ≡ behind_of (lex_at u i).toks
went u i e g = sym (ap (λ (z : Lexed). behind_of z.toks) (meets u i e g))

pub overflow_add-result : goal.overflow_add-result
overflow_add-result c = let w = (found_within c.args.s.now _ _ _ c.next_token.ensures c.in-Start.is) in omega arith

pub overflow_add-result-in-Node : goal.overflow_add-result-in-Node
overflow_add-result-in-Node c = let w = (found_within c.args.s.now _ _ _ c.next_token.ensures c.in-Node.is) in omega arith

pub returns-in-Start : goal.returns-in-Start
returns-in-Start c = let a = c.args in
    let e = c.next_token.ensures in
    let g = c.in-Start.is in
    (on a.s.now a.from e g, went a.s.now a.from e g)

pub returns-in-Node : goal.returns-in-Node
returns-in-Node c = let a = c.args in
    let e = c.next_token.ensures in
    let g = c.in-Node.is in
    (on a.s.now a.from e g, went a.s.now a.from e g)

pub returns-in-Property : goal.returns-in-Property
returns-in-Property c = let a = c.args in
    let e = c.next_token.ensures in
    let g = c.in-Property.is in
    (on a.s.now a.from e g, went a.s.now a.from e g)

pub returns-in-End : goal.returns-in-End
returns-in-End c = let a = c.args in
    let e = c.next_token.ensures in
    let g = c.in-End.is in
    (on a.s.now a.from e g, past-toks a.s.now ∙ went a.s.now a.from e g)

pub returns-in-Refused : goal.returns-in-Refused
returns-in-Refused c = let a = c.args in
    let e = c.next_token.ensures in
    let g = c.in-Refused.is in
    (on a.s.now a.from e g, past-toks a.s.now ∙ went a.s.now a.from e g)

pub returns-in-Done : goal.returns-in-Done
returns-in-Done c = let a = c.args in
    let e = c.next_token.ensures in
    let g = c.in-Done.is in
    (on a.s.now a.from e g, past-toks a.s.now ∙ went a.s.now a.from e g)
