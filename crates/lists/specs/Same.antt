-- Lists compared.
use Rattle.std.specs.Prelude.{◌&&◌, ◌∷◌}
use Rattle.lists.specs.Prelude.{ℕ, Bool, true, false, List, [], eqb}

-- the same numbers in the same order
abbrev pub same : List ℕ → List ℕ → Bool
same [] [] = true
same [] (y ∷ ys) = false
same (x ∷ xs) [] = false
same (x ∷ xs) (y ∷ ys) = eqb x y && same xs ys
