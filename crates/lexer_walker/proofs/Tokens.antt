-- Successive steps give the tokens of the definition, one after the other. Assumes nothing.
use Rattle.lists.proofs.Prelude.{ℕ, ◌≡◌, refl, ap, sym, ◌∙◌, List}
use Rattle.lexer.specs.Token.{lex_at}
use Rattle.lexer.specs.Step.{behind, step_on, SteppedIs}
use Rattle.lexer_laws.proofs.Join.{lex-next}
use Rattle.lexer.specs.declared.Step.{Step}
use Rattle.lexer.specs.declared.Step.TheVariants.{Start, End, Node, Property, Refused, Done}
use Rattle.lexer_walker.specs.LocalsWalk.{gives}

-- at the place behind a step's token the definition goes on
on-behind : (s : List ℕ) (at : ℕ) (t : Step) → step_on s t ≡ gives s t (behind at t)
on-behind s at (Start i) = refl
on-behind s at (End i) = refl
on-behind s at (Node i) = refl
on-behind s at (Property i k e) = refl
on-behind s at (Refused f i) = refl
on-behind s at Done = refl

pub steps-give : (s : List ℕ) (at : ℕ) (t : Step) (n : ℕ) → SteppedIs s at t n → lex_at s at ≡ gives s t n
steps-give s at t n p =
    lex-next s at
    ∙ ap (step_on s) (sym p.token-is)
    ∙ on-behind s at t
    ∙ ap (gives s t) (ap (behind at) p.token-is ∙ sym p.next-is)
