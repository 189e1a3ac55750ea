-- The game type as the code finds it.
use Rattle.std.specs.Prelude.{◌∷◌, ◌+◌, Result, Ok, Err, ℕ}
use Rattle.lists.specs.Prelude.{Bool, true, false, List, []}
use Rattle.lexer.specs.Token.{Val, Tok, start, end, node, prop}
use Rattle.lexer.specs.declared.Step.{Step}
use Rattle.lexer.specs.declared.Step.TheVariants.{Start, End, Node, Property, Refused, Done}
use Rattle.parser.specs.Game.{Game, is, no_game, game_vals}
use Rattle.tables.specs.declared.Reason.{Reason}

-- the code's answer for the definition's
abbrev pub type_of : Game → Result ℕ Reason
type_of (is k) = Ok k
type_of (no_game r) = Err r

-- behind the first token, where the slice goes on
abbrev pub behind_of : List Tok → List Tok
behind_of [] = []
behind_of (start o ∷ ts) = ts
behind_of (end o ∷ ts) = []
behind_of (node o ∷ ts) = ts
behind_of (prop p e ∷ ts) = ts

-- the place behind what a step met, where the slice goes on, else the end of a text of n bytes
abbrev pub goes_on_at : ℕ → Step → ℕ
goes_on_at n (Start i) = i + 1
goes_on_at n (Node i) = i + 1
goes_on_at n (Property i k e) = e
goes_on_at n (End i) = n
goes_on_at n (Refused f i) = n
goes_on_at n Done = n

-- one property GM with these values, or none
abbrev pub concluded : Bool → List Val → Game
concluded true vs = game_vals vs
concluded false vs = is 0
