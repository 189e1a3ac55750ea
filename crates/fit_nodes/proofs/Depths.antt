-- The depth of a node that is no root, as the check computes it. Assumes nothing.
use Rattle.lists.proofs.Prelude.{ℕ, ◌+◌, ◌*◌, List, ◌≡◌, ap, ◌∙◌, eqb, ne_eqb, add-one, get_or}
use Rattle.tables.specs.Numbers.{none}
use Rattle.tables.specs.Columns.{node_stride, parent_at, depth_at}
use Rattle.fit_nodes.specs.Nodes.{depth_right}

pub depth-right : (nd : List ℕ) (k : ℕ) → (parent_at nd k ≡ none → ⊥) → {u a b : ℕ} → u ≡ parent_at nd k → a ≡ depth_at nd k → b ≡ get_or nd (u * node_stride + 5) 0
    → eqb a (b + 1) ≡ depth_right nd k
depth-right nd k h {u} {a} {b} eu ea eb =
    let d : b ≡ depth_at nd (parent_at nd k) = eb ∙ ap (depth_at nd) eu in
    rw (ne_eqb (parent_at nd k) none h, ea, d, add-one)
