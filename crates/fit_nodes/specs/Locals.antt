-- What the check's own loops promise each other.
use Rattle.std.specs.Prelude.{◌-◌, ◌<◌, ◌≤◌, ◌≡◌}
use Rattle.lists.specs.Prelude.{ℕ, Bool, true, false, List}
use Rattle.tables.specs.Columns.{parent_at}
use Rattle.tables.specs.Each.{each}
use Rattle.tables.specs.Numbers.{none}
use Rattle.fit_nodes.specs.Nodes.{on_path, parent_right, sibling_right}

-- the rule of the parents holds of n nodes, and none is no number of one
pub record Ruled (nd : List ℕ) (n : ℕ) : Type 0 where
  pub most : n ≤ none
  pub rule : each n (parent_right nd) ≡ true

-- p is the parent of node k, or none where all n nodes are passed
pub record NextParent (nd : List ℕ) (n k p : ℕ) : Type 0 where
  pub ruled : Ruled nd n
  pub some : 0 < k
  pub in-range : k ≤ n
  pub more : k < n → p ≡ parent_at nd k
  pub last : n ≤ k → p ≡ none

-- r: of the nodes on the path of node k - 1, all that are not on p's have the right next sibling; else some node has not
pub record Climbed (nd : List ℕ) (n k p : ℕ) (r : Bool) : Type 0 where
  pub right : r ≡ true → (i : ℕ) → i < k → on_path nd (k - 1) i ≡ true → ((p ≡ none → ⊥) → on_path nd p i ≡ false) → sibling_right nd n i ≡ true
  pub wrong : r ≡ false → false ≡ each n (sibling_right nd n)
