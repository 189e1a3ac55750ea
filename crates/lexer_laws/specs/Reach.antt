-- Places that are reached by tokens.
use Rattle.lists.specs.Prelude.{ℕ, List}
use Rattle.lexer.specs.Step.{next_at, behind}
use Rattle.lexer.specs.declared.Step.{Step}
use Rattle.lexer.specs.declared.Step.TheVariants.{Start, End as end_step, Node, Property, Refused, Done}

-- a token, no refusal and not the end
abbrev pub IsToken : Step → Type 0
IsToken (Start i) = Unit {0}
IsToken (end_step i) = Unit {0}
IsToken (Node i) = Unit {0}
IsToken (Property i k e) = Unit {0}
IsToken (Refused f i) = ⊥
IsToken Done = ⊥

-- k is reached from i by tokens of the text u
pub data Reaches (u : List ℕ) : ℕ → ℕ → Type 0 where
  here : {i : ℕ} → Reaches u i i
  on : {i k : ℕ} → IsToken (next_at u i) → Reaches u (behind i (next_at u i)) k → Reaches u i k
