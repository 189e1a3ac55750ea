-- The shape that `shape_of` gives is that of the tree's writing: its depth, and how many of its nodes stand in brackets. Assumes nothing.
use Rattle.lists.proofs.Prelude.{ℕ, suc, ◌≡◌, refl, ap, ◌∙◌, max, arith, List, [], ◌∷◌, length}
use Rattle.tables.specs.Record.{Node}
use Rattle.tables.specs.Rows.{parents}
use Rattle.salvage_list.specs.LocalsWalk.{nodes_from}
use Rattle.salvage_depth.proofs.Opened.{highest}
use Rattle.salvage_shape.specs.LocalsWalk.{ShapeReady, ShapeIs}
use Rattle.salvage_shape.specs.declared.TreeShape.{TreeShape}
use Rattle.salvage_shape.proofs.Depths.{shape-highest}

pub parents-many : (ns : List Node) → length (parents ns) ≡ length ns
parents-many [] = refl
parents-many (n ∷ ns) = ap suc (parents-many ns)

-- the most brackets that are open at a node, the tree's own among them; 1 of no node
pub shape-depth : {u : List ℕ} {from base : ℕ} {r : TreeShape} → ShapeReady u from base → ShapeIs u from base r
    → r.depth ≡ max 1 (highest (parents (nodes_from u from base)) base [] (parents (nodes_from u from base)))
shape-depth {u} {from} {base} {r} h x =
    let a = h.short in
    let b = h.nodes in
    let c = x.node-bound in
    let d = x.behind.inside in
    let e = x.nodes in
    let f = parents-many (nodes_from u from base) in
    x.depth ∙ shape-highest base (parents (nodes_from u from base)) (omega (arith, a, b, c, d, e, f)) x.meets
