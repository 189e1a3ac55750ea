-- The first token at which a fold over tokens goes wrong.
use Rattle.std.specs.Prelude.{◌∷◌, ◌++◌}
use Rattle.lists.specs.Prelude.{ℕ, Bool, true, false, List, [], ltb, pick}
use Rattle.lexer.specs.Token.{Tok, token_place}
use Rattle.tables.specs.Numbers.{depth_limit}
use Rattle.parser.specs.Split.{Splitting, splitting, over, wrong}
use Rattle.parser.specs.Walk.{Walk, walk, halted, stopped}

-- none; or the state before it, the tokens before it, and the token
pub data Blame (S : Type 0) : Type 0 where
  nowhere : Blame S
  found : S → List Tok → Tok → Blame S

-- the tokens ts behind the tokens `pre`, from the state s on: the first that makes the state bad (SCOPE 262)
abbrev pub blame : {S : Type 0} → (S → Tok → S) → (S → Bool) → S → (pre ts : List Tok) → Blame S
blame f bad s pre [] = nowhere
blame f bad s pre (t ∷ ts) = let r = blame f bad (f s t) (pre ++ (t ∷ [])) ts in pick (bad (f s t)) (found s pre t) r

-- splitting is refused (6)
abbrev pub split_wrong : Splitting → Bool
split_wrong (splitting d m cur ss) = false
split_wrong (over m ss) = false
split_wrong (wrong r) = true

-- the depth is above the limit (9)
abbrev pub is_deep : Splitting → Bool
is_deep (splitting d m cur ss) = ltb depth_limit m
is_deep (over m ss) = ltb depth_limit m
is_deep (wrong r) = false

-- the tree stops: strict it is refused (10, 11), lenient it is cut short
abbrev pub is_stopped : Walk → Bool
is_stopped (walk cur st g ns) = false
is_stopped (halted ns) = true
is_stopped (stopped r) = true

-- the place of the token to blame
abbrev pub blame_place : {S : Type 0} → Blame S → ℕ
blame_place nowhere = 0
blame_place (found s pre t) = token_place t
