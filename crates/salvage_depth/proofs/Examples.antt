-- Node rows and the depth that is counted along them. By computation. Assumes nothing.
use Rattle.lists.proofs.Prelude.{ℕ, List, [], ◌∷◌, ◌≡◌, refl}
use Rattle.tables.specs.Numbers.{none}
use Rattle.salvage_depth.specs.LocalsDepth.{shut_below, open_at, most_open, depth_in}

-- `(;(;(;)(;))(;))`: three at the third node, two at the last
abbrev forks : List ℕ
forks =
    none ∷ 1 ∷ none ∷ 0 ∷ 0 ∷ 0
    ∷ 0 ∷ 2 ∷ 4 ∷ 0 ∷ 0 ∷ 1
    ∷ 1 ∷ none ∷ 3 ∷ 0 ∷ 0 ∷ 2
    ∷ 1 ∷ none ∷ none ∷ 0 ∷ 0 ∷ 2
    ∷ 0 ∷ none ∷ none ∷ 0 ∷ 0 ∷ 1
    ∷ []

-- `(;;)(;)`: one child stands in no brackets, and the second tree opens none inside the first
abbrev trees : List ℕ
trees =
    none ∷ 1 ∷ none ∷ 0 ∷ 0 ∷ 0
    ∷ 0 ∷ none ∷ none ∷ 0 ∷ 0 ∷ 1
    ∷ none ∷ none ∷ none ∷ 0 ∷ 0 ∷ 0
    ∷ []

-- a node that is its own parent: rows that do not fit
abbrev own : List ℕ
own = 0 ∷ 0 ∷ none ∷ 0 ∷ 0 ∷ 0 ∷ []

pub depths-right : (depth_in forks 5 ≡ 3) × (depth_in trees 3 ≡ 1) × (depth_in [] 7 ≡ 0) × (depth_in own 9 ≡ 0)
unfolding shut_below open_at most_open
depths-right = (refl, refl, refl, refl)
