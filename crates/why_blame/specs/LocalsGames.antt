-- Properties named GM, found one after the other. Nothing public is stated by these.
use Rattle.std.specs.Prelude.{◌≡◌, ◌∷◌, Option, Some, None}
use Rattle.lists.specs.Prelude.{ℕ, List, []}
use Rattle.lexer.specs.Token.{Tok, lex_at}
use Rattle.lexer.specs.Step.{prop_at}
use Rattle.parser.specs.Game.{props, props_named, GM}

-- the first GM of the properties that the tokens begin with: from i, its first `[` at k, and the tokens from e on behind it
abbrev pub FoundIs : List ℕ → List Tok → Option (ℕ × ℕ × ℕ) → Type 0
FoundIs u ts None = props_named GM (props ts) ≡ []
FoundIs u ts (Some (i, k, e)) = props_named GM (props ts) ≡ prop_at u i k ∷ props_named GM (props (lex_at u e).toks)
