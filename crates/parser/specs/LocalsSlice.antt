-- Slices cut off one by one from the front of the tokens: what the code does, beside the fold of `Split`.
use Rattle.std.specs.Prelude.{◌<◌, ◌∷◌}
use Rattle.lists.specs.Prelude.{ℕ, zero, suc, List, []}
use Rattle.lexer.specs.Token.{Tok, start, end, node, prop}
use Rattle.tables.specs.Numbers.{depth_limit}

-- the tokens up to the end that brings the depth d to 0
unfoldable pub slice_from : ℕ → List Tok → List Tok
slice_from d [] = []
slice_from d (start o ∷ ts) = start o ∷ slice_from (suc d) ts
slice_from zero (end o ∷ ts) = end o ∷ []
slice_from (suc zero) (end o ∷ ts) = end o ∷ []
slice_from (suc (suc d)) (end o ∷ ts) = end o ∷ slice_from (suc d) ts
slice_from d (node o ∷ ts) = node o ∷ slice_from d ts
slice_from d (prop p e ∷ ts) = prop p e ∷ slice_from d ts

-- those behind it
unfoldable pub rest_from : ℕ → List Tok → List Tok
rest_from d [] = []
rest_from d (start o ∷ ts) = rest_from (suc d) ts
rest_from zero (end o ∷ ts) = ts
rest_from (suc zero) (end o ∷ ts) = ts
rest_from (suc (suc d)) (end o ∷ ts) = rest_from (suc d) ts
rest_from d (node o ∷ ts) = rest_from d ts
rest_from d (prop p e ∷ ts) = rest_from d ts

-- the first k slices
unfoldable pub first_slices : ℕ → List Tok → List (List Tok)
first_slices zero ts = []
first_slices (suc k) ts = slice_from 0 ts ∷ first_slices k (rest_from 0 ts)

-- no token of a slice brings the depth d above the limit
unfoldable pub Shallow : ℕ → List Tok → Type 0
Shallow d [] = Unit {0}
Shallow d (start o ∷ ts) = (d < depth_limit) × Shallow (suc d) ts
Shallow zero (end o ∷ ts) = Shallow zero ts
Shallow (suc d) (end o ∷ ts) = Shallow d ts
Shallow d (node o ∷ ts) = Shallow d ts
Shallow d (prop p e ∷ ts) = Shallow d ts
