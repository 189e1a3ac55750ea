-- Slices in the scope's words: no accumulator, no greatest depth.
use Rattle.std.specs.Prelude.{◌+◌, ◌<◌, ◌⊎◌, ◌∷◌}
use Rattle.lists.specs.Prelude.{ℕ, zero, suc, List, [], take}
use Rattle.lexer.specs.Token.{Tok, start, end, node, prop}
use Rattle.tables.specs.Numbers.{depth_limit}
use Rattle.parser.specs.Balance.{starts, ends}

-- A exactly when B
abbrev pub Iff : Type 0 → Type 0 → Type 0
Iff A B = (A → B) × (B → A)

-- P holds of some element
abbrev pub Any : {A : Type 0} → (A → Type 0) → List A → Type 0
Any P [] = ⊥
Any P (x ∷ xs) = P x ⊎ Any P xs

-- a token before the first slice; where no slice follows it is dropped (SCOPE 79)
abbrev pub onto : Tok → List (List Tok) → List (List Tok)
onto t [] = []
onto t (s ∷ ss) = (t ∷ s) ∷ ss

-- from the depth d on: a slice ends after each end that brings the depth to 0, a slice that stays open is the last, an end at depth 0 stops (SCOPE 78)
unfoldable pub slices_from : ℕ → List Tok → List (List Tok)
slices_from zero [] = []
slices_from (suc d) [] = [] ∷ []
slices_from d (start o ∷ ts) = onto (start o) (slices_from (suc d) ts)
slices_from zero (end o ∷ ts) = []
slices_from (suc zero) (end o ∷ ts) = (end o ∷ []) ∷ slices_from zero ts
slices_from (suc (suc d)) (end o ∷ ts) = onto (end o) (slices_from (suc d) ts)
slices_from d (node o ∷ ts) = onto (node o) (slices_from d ts)
slices_from d (prop p e ∷ ts) = onto (prop p e) (slices_from d ts)

-- where d trees are open before them, some prefix has more ends than there are starts (SCOPE 37)
abbrev pub Uncovered : ℕ → List Tok → Type 0
Uncovered d ts = (k : ℕ) × (d + starts (take k ts) < ends (take k ts))

-- where d trees are open before them, some token brings the depth above the limit (SCOPE 40)
abbrev pub Deep : ℕ → List Tok → Type 0
Deep d ts = (k : ℕ) × (depth_limit + ends (take k ts) < d + starts (take k ts))
