-- The game type of a slice, explained.
use Rattle.std.specs.Prelude.{◌∷◌, Option, Some, None}
use Rattle.lists.specs.Prelude.{ℕ, List, [], length}
use Rattle.lexer.specs.Token.{Val, Prop}
use Rattle.parser.specs.Game.{Game, is, no_game, game_vals}
use Rattle.why_blame.specs.declared.Fact.{Fact}
use Rattle.why_blame.specs.declared.Fact.TheVariants.{SecondGm, GmValues, GmNumber}
use Rattle.tables.specs.Refusals.{refusal}
use Rattle.tables.specs.declared.Refusal.{Refusal}

-- GM without one value, or its value is no number
abbrev pub values_fact : List Val → Fact
values_fact [] = GmValues 0
values_fact (v ∷ []) = GmNumber
values_fact (v ∷ u ∷ vs) = GmValues (length (v ∷ u ∷ vs))

-- GM at a place, by the game type that it says
abbrev pub values_blame : (at : ℕ) → List Val → Game → Option (Refusal Fact)
values_blame at vs (is k) = None
values_blame at vs (no_game r) = Some (refusal (values_fact vs) at)

-- the game type of slice n, by the properties named GM that follow its second token (SCOPE 268)
abbrev pub game_blame : (n : ℕ) → List Prop → Option (Refusal Fact)
game_blame n [] = None
game_blame n (p ∷ []) = values_blame p.from p.vals (game_vals p.vals)
game_blame n (p ∷ q ∷ ps) = Some (refusal (SecondGm n) q.from)
