-- Splitting: tokens to slices, a fold over the tokens.
use Rattle.std.specs.Prelude.{◌∷◌}
use Rattle.lists.specs.Prelude.{ℕ, zero, suc, max, Bool, true, false, List, [], reverse, ltb, pick}
use Rattle.lexer.specs.Token.{Tok, start, end, node, prop}
use Rattle.tables.specs.Numbers.{depth_limit}
use Rattle.tables.specs.declared.Reason.{Reason}
use Rattle.tables.specs.declared.Reason.TheVariants.{UnexpectedGameTreeEnd, UnexpectedEndOfData, NoGameTrees, TooDeep}

-- the depth now, the greatest depth so far, the slice so far (last token first), the slices (last first); no more slices come; or refused
pub data Splitting : Type 0 where
  splitting : (d m : ℕ) → List Tok → List (List Tok) → Splitting
  over : (m : ℕ) → List (List Tok) → Splitting
  wrong : Reason → Splitting

-- an end, by the depth before it: a slice ends where the depth comes to 0; at depth 0 lenient splitting stops (SCOPE 37, 78, 81)
abbrev pub ended : Bool → ℕ → ℕ → Tok → List Tok → List (List Tok) → Splitting
ended len zero m t cur ss = pick len (over m ss) (wrong UnexpectedGameTreeEnd)
ended len (suc zero) m t cur ss = splitting zero m [] (reverse (t ∷ cur) ∷ ss)
ended len (suc (suc d)) m t cur ss = splitting (suc d) m (t ∷ cur) ss

-- one token
abbrev pub splits : Bool → Splitting → Tok → Splitting
splits len (splitting d m cur ss) (start o) = splitting (suc d) (max m (suc d)) (start o ∷ cur) ss
splits len (splitting d m cur ss) (end o) = ended len d m (end o) cur ss
splits len (splitting d m cur ss) (node o) = splitting d m (node o ∷ cur) ss
splits len (splitting d m cur ss) (prop p e) = splitting d m (prop p e ∷ cur) ss
splits len (over m ss) t = over m ss
splits len (wrong r) t = wrong r

-- all tokens
abbrev pub split : Bool → Splitting → List Tok → Splitting
split len s [] = s
split len s (t ∷ ts) = split len (splits len s t) ts

-- the slices in text order, or why there are none
pub data Slices : Type 0 where
  no : Reason → Slices
  slices : List (List Tok) → Slices

-- a token of a slice brings the depth above the limit (SCOPE 40)
abbrev pub deep : ℕ → List (List Tok) → Slices
deep m ss = pick (ltb depth_limit m) (no TooDeep) (slices ss)

-- no slice at all: lenient splitting gives an empty one (SCOPE 39, 82)
abbrev pub filled : Bool → ℕ → List (List Tok) → Slices
filled true m [] = slices ([] ∷ [])
filled false m [] = no NoGameTrees
filled len m (s ∷ ss) = deep m (reverse (s ∷ ss))

-- after the last token: tokens after the last end are dropped; a tree that stays open is refused, or the last slice where reading is lenient (SCOPE 38, 59, 79, 82)
abbrev pub sliced : Bool → Splitting → Slices
sliced len (splitting zero m cur ss) = filled len m ss
sliced true (splitting (suc d) m cur ss) = deep m (reverse (reverse cur ∷ ss))
sliced false (splitting (suc d) m cur ss) = no UnexpectedEndOfData
sliced len (over m ss) = filled len m ss
sliced len (wrong r) = no r

-- the slices of the tokens (SCOPE 77)
abbrev pub split_by_gametree : Bool → List Tok → Slices
split_by_gametree len ts = sliced len (split len (splitting 0 0 [] []) ts)
