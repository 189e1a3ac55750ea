-- Fitting, the nodes: roots, parents, links, game types, depths.
use Rattle.std.specs.Prelude.{◌-◌, ◌/◌, ◌||◌, ◌&&◌, ◌∷◌}
use Rattle.lists.specs.Prelude.{ℕ, zero, suc, Bool, not, List, [], leb, ltb, eqb, length, pick}
use Rattle.lists.specs.Same.{same}
use Rattle.tables.specs.Numbers.{none}
use Rattle.tables.specs.declared.Counts.{Counts}
use Rattle.tables.specs.Columns.{tree_stride, node_stride, root_at, game_at, parent_at, child_at, sibling_at, depth_at}
use Rattle.tables.specs.Each.{each, tabulate}

-- those of the m nodes from k on that have no parent (SCOPE 18)
unfoldable pub orphans : List ℕ → (k m : ℕ) → List ℕ
orphans nd k zero = []
orphans nd k (suc m) = pick (eqb (parent_at nd k) none) (k ∷ orphans nd (suc k) m) (orphans nd (suc k) m)

-- the roots of m trees are exactly those of n nodes that have no parent, ascending (SCOPE 18)
abbrev pub roots_right : (m n : ℕ) → (tr nd : List ℕ) → Bool
roots_right m n tr nd = same (tabulate (root_at tr) 0 m) (orphans nd 0 n)

-- node j has a parent, which stands before it
abbrev pub has_parent : List ℕ → ℕ → Bool
has_parent nd j = not (eqb (parent_at nd j) none) && ltb (parent_at nd j) j

-- p is node j or an ancestor of it, at most f nodes up
unfoldable pub upward : List ℕ → (f j p : ℕ) → Bool
upward nd zero j p = eqb j p
upward nd (suc f) j p = eqb j p || (has_parent nd j && upward nd f (parent_at nd j) p)

-- p is node j or an ancestor of it: parents stand before their children, so there are at most j above j (SCOPE 19)
unfoldable pub on_path : List ℕ → (j p : ℕ) → Bool
on_path nd j p = upward nd j j p

-- for k > 0 node k's parent is none, k - 1 or an ancestor of k - 1, and node 0's is none (SCOPE 19)
abbrev pub parent_right : List ℕ → ℕ → Bool
parent_right nd k = eqb (parent_at nd k) none || (ltb 0 k && on_path nd (k - 1) (parent_at nd k))

-- the first of the m nodes from k on whose parent is p, or none
unfoldable pub first_under : List ℕ → (p k m : ℕ) → ℕ
first_under nd p k zero = none
first_under nd p k (suc m) = pick (eqb (parent_at nd k) p) k (first_under nd p (suc k) m)

-- the first child of k, of n nodes, is the first whose parent is k (SCOPE 20)
abbrev pub child_right : List ℕ → (n k : ℕ) → Bool
child_right nd n k = eqb (child_at nd k) (first_under nd k 0 n)

-- the next of n nodes with k's parent; a root has none (SCOPE 20)
abbrev pub next_sibling : List ℕ → (n k : ℕ) → ℕ
next_sibling nd n k = pick (eqb (parent_at nd k) none) none (first_under nd (parent_at nd k) (suc k) (n - suc k))

-- the next sibling of k is the next with its parent (SCOPE 20)
abbrev pub sibling_right : List ℕ → (n k : ℕ) → Bool
sibling_right nd n k = eqb (sibling_at nd k) (next_sibling nd n k)

-- a game type is 0 or 1 (SCOPE 21)
abbrev pub game_right : List ℕ → ℕ → Bool
game_right tr k = leb (game_at tr k) 1

-- a root has depth 0, any other node its parent's plus 1 (SCOPE 21)
abbrev pub depth_right : List ℕ → ℕ → Bool
depth_right nd k = eqb (depth_at nd k) (pick (eqb (parent_at nd k) none) 0 (suc (depth_at nd (parent_at nd k))))

-- all of it
unfoldable pub nodes_fit : Counts → (tr nd : List ℕ) → Bool
nodes_fit c tr nd =
    roots_right c.trees c.nodes tr nd
    && each c.nodes (parent_right nd)
    && each c.nodes (child_right nd c.nodes)
    && each c.nodes (sibling_right nd c.nodes)
    && each c.trees (game_right tr)
    && each c.nodes (depth_right nd)

-- so many trees and nodes are lent; no node has the number that means none
abbrev pub lent_nodes : Counts → (tr nd : List ℕ) → Bool
lent_nodes c tr nd = leb c.trees (length tr / tree_stride) && leb c.nodes (length nd / node_stride) && leb c.nodes none

-- they are lent, and fit
unfoldable pub links_fit : Counts → (tr nd : List ℕ) → Bool
links_fit c tr nd = lent_nodes c tr nd && nodes_fit c tr nd
