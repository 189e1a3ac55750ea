-- The way from the root down to a node, by the parents.
use Rattle.std.specs.Prelude.{◌∷◌, ◌++◌}
use Rattle.lists.specs.Prelude.{ℕ, zero, suc, List, [], pick}
use Rattle.tables.specs.Columns.{parent_at}
use Rattle.fit_nodes.specs.Nodes.{has_parent}

-- the nodes above k, at most f of them, the topmost first, and k
unfoldable pub way_up : List ℕ → (f k : ℕ) → List ℕ
way_up nd zero k = k ∷ []
way_up nd (suc f) k = pick (has_parent nd k) (way_up nd f (parent_at nd k) ++ (k ∷ [])) (k ∷ [])

-- from the root to k: parents stand before their children, so there are at most k above k
unfoldable pub way_to : List ℕ → ℕ → List ℕ
way_to nd k = way_up nd k k
