-- What a step of the walker says of the tokens of its text.
use Rattle.std.specs.Prelude.{◌∷◌}
use Rattle.lists.specs.Prelude.{ℕ, List, []}
use Rattle.lexer.specs.Token.{start, end, node, prop, done, broken, Lexed, lexed, lex_at}
use Rattle.lexer.specs.Step.{prop_at}
use Rattle.lexer.specs.declared.Step.{Step}
use Rattle.lexer.specs.declared.Step.TheVariants.{Start, End, Node, Property, Refused, Done}

-- the token that the step found, then the tokens from the next place on; or how they end
abbrev pub gives : List ℕ → Step → ℕ → Lexed
gives s (Start i) n = lexed (start i ∷ []) (lex_at s n)
gives s (End i) n = lexed (end i ∷ []) (lex_at s n)
gives s (Node i) n = lexed (node i ∷ []) (lex_at s n)
gives s (Property i k e) n = lexed (prop (prop_at s i k) e ∷ []) (lex_at s n)
gives s (Refused f i) n = record { toks = []; end = broken f i }
gives s Done n = record { toks = []; end = done }
