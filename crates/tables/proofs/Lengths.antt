-- A row and a parent for each node, a row for each property and for each value. Assumes nothing.
use Rattle.lists.proofs.Prelude.{ℕ, suc, ◌+◌, List, [], ◌∷◌, ◌≡◌, refl, ap, length}
use Rattle.lexer.specs.Token.{Prop, Val}
use Rattle.tables.specs.Record.{Node}
use Rattle.tables.specs.Rows.{node_rows, parents, prop_rows, val_rows}

pub prop-rows-length : (f : ℕ) (ps : List Prop) → length (prop_rows f ps) ≡ length ps
prop-rows-length f [] = refl
prop-rows-length f (p ∷ ps) = ap suc (prop-rows-length (f + length p.vals) ps)

pub val-rows-length : (vs : List Val) → length (val_rows vs) ≡ length vs
val-rows-length [] = refl
val-rows-length (v ∷ vs) = ap suc (val-rows-length vs)

pub node-rows-length : (ps : List ℕ) (k f : ℕ) (ns : List Node) → length (node_rows ps k f ns) ≡ length ns
node-rows-length ps k f [] = refl
node-rows-length ps k f (n ∷ ns) = ap suc (node-rows-length ps (suc k) (f + length n.props) ns)

pub parents-length : (ns : List Node) → length (parents ns) ≡ length ns
parents-length [] = refl
parents-length (n ∷ ns) = ap suc (parents-length ns)
