-- What is lent where the test of it is passed. Assumes nothing.
use Rattle.lists.proofs.Prelude.{ℕ, ◌/◌, ◌≤◌, Bool, true, ◌&&◌, List, ◌≡◌, leb, length, leb-true}
use Rattle.tables.specs.Numbers.{none}
use Rattle.tables.specs.declared.Counts.{Counts}
use Rattle.tables.proofs.Cases.{and_left, and_right}
use Rattle.tables.specs.Columns.{node_stride}
use Rattle.fit_nodes.specs.Nodes.{lent_nodes}

pub lent_is : (c : Counts) (tr nd : List ℕ) → lent_nodes c tr nd ≡ true → (c.trees ≤ length tr / 2) × (c.nodes ≤ length nd / node_stride) × (c.nodes ≤ none)
lent_is c tr nd h =
    let p : Bool = leb c.trees (length tr / 2) in
    let q : Bool = leb c.nodes (length nd / node_stride) in
    let r : Bool = leb c.nodes none in
    let h2 = and_left (p && q) r h in
    (leb-true _ _ (and_left p q h2), leb-true _ _ (and_right p q h2), leb-true _ _ (and_right (p && q) r h))
