-- Starts and ends that match, in the scope's words.
use Rattle.std.specs.Prelude.{◌+◌, ◌≤◌, ◌<◌, ◌≡◌, ◌∷◌}
use Rattle.lists.specs.Prelude.{ℕ, suc, List, [], take}
use Rattle.lexer.specs.Token.{Tok, start, end, node, prop}

-- how many of the tokens are starts
abbrev pub starts : List Tok → ℕ
starts [] = 0
starts (start o ∷ ts) = suc (starts ts)
starts (end o ∷ ts) = starts ts
starts (node o ∷ ts) = starts ts
starts (prop p e ∷ ts) = starts ts

-- how many are ends
abbrev pub ends : List Tok → ℕ
ends [] = 0
ends (start o ∷ ts) = ends ts
ends (end o ∷ ts) = suc (ends ts)
ends (node o ∷ ts) = ends ts
ends (prop p e ∷ ts) = ends ts

-- where d trees are open before them, no prefix has more ends than there are starts
abbrev pub Covered : ℕ → List Tok → Type 0
Covered d ts = (k : ℕ) → ends (take k ts) ≤ d + starts (take k ts)

-- no prefix has more ends than starts, starts and ends are equal in number, and an end exists
pub record Balanced (ts : List Tok) : Type 0 where
  pub covered : Covered 0 ts
  pub equal : starts ts ≡ ends ts
  pub some : 0 < ends ts
