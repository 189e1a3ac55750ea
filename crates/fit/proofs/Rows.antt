-- The rows that lent tables have: of the flat tables of rows, those rows, whatever stands behind them. Assumes nothing.
use Rattle.lists.proofs.Prelude.{ℕ, zero, suc, ◌+◌, ◌*◌, List, [], ◌∷◌, ◌++◌, append_assoc, ◌≡◌, refl, ap, ap₂, ◌∙◌, arith, length}
use Rattle.tables.specs.Flat.{flat_trees, flat_nodes, flat_props, flat_vals}
use Rattle.tables.specs.Rows.{TreeRow, NodeRow, PropRow, ValRow, Tables, counts_of}
use Rattle.tables.specs.Each.{tabulate}
use Rattle.tables.specs.Columns.{node_stride}
use Rattle.fit.specs.Record.{tree_row, node_row, prop_row, val_row, rows_of}

tabulate-later : {A : Type 0} (f g : ℕ → A) → ((k : ℕ) → f (suc k) ≡ g k) → (k m : ℕ) → tabulate f (suc k) m ≡ tabulate g k m
unfolding tabulate
tabulate-later f g h k zero = refl
tabulate-later f g h k (suc m) = ap₂ (λ x (xs : List _). x ∷ xs) (h k) (tabulate-later f g h (suc k) m)

-- of a table of any width: the first row is found in the first cells, each later one as in the table behind these
module _ {A : Type 0} (cells : A → List ℕ) (flat : List A → List ℕ) (row : List ℕ → ℕ → A)
    (flat-cons : (r : A) (rs : List A) → flat (r ∷ rs) ≡ cells r ++ flat rs)
    (row_first : (r : A) (t : List ℕ) → row (cells r ++ t) 0 ≡ r)
    (row-later : (r : A) (t : List ℕ) (k : ℕ) → row (cells r ++ t) (suc k) ≡ row t k) where
  rows-flat : (rs : List A) (w : List ℕ) → tabulate (row (flat rs ++ w)) 0 (length rs) ≡ rs
  unfolding tabulate
  rows-flat [] w = refl
  rows-flat (r ∷ rs) w =
      let e : flat (r ∷ rs) ++ w ≡ cells r ++ (flat rs ++ w) = ap (λ (z : List ℕ). z ++ w) (flat-cons r rs) ∙ append_assoc (cells r) (flat rs) w in
      ap (λ (z : List ℕ). tabulate (row z) 0 (suc (length rs))) e
      ∙ ap₂ (λ x (xs : List A). x ∷ xs) (row_first r (flat rs ++ w))
      (tabulate-later (row (cells r ++ (flat rs ++ w))) (row (flat rs ++ w)) (row-later r (flat rs ++ w)) 0 (length rs) ∙ rows-flat rs w)

tree-rows : (rs : List TreeRow) (w : List ℕ) → tabulate (tree_row (flat_trees rs ++ w)) 0 (length rs) ≡ rs
tree-rows = rows-flat (λ r. r.root ∷ r.game ∷ []) flat_trees tree_row (λ r rs. refl) (λ r t. refl)
    (λ r t k.
    let a : suc k * 2 ≡ suc (suc (k * 2)) = omega arith in
    let b : suc k * 2 + 1 ≡ suc (suc (k * 2 + 1)) = omega arith in
    rw (b, a))

node-rows : (rs : List NodeRow) (w : List ℕ) → tabulate (node_row (flat_nodes rs ++ w)) 0 (length rs) ≡ rs
node-rows = rows-flat (λ r. r.parent ∷ r.child ∷ r.sibling ∷ r.first ∷ r.count ∷ r.depth ∷ []) flat_nodes node_row (λ r rs. refl) (λ r t. refl)
    (λ r t k.
    let a : suc k * node_stride ≡ suc (suc (suc (suc (suc (suc (k * node_stride)))))) = omega arith in
    let b : suc k * node_stride + 1 ≡ suc (suc (suc (suc (suc (suc (k * node_stride + 1)))))) = omega arith in
    let c : suc k * node_stride + 2 ≡ suc (suc (suc (suc (suc (suc (k * node_stride + 2)))))) = omega arith in
    let d : suc k * node_stride + 3 ≡ suc (suc (suc (suc (suc (suc (k * node_stride + 3)))))) = omega arith in
    let e : suc k * node_stride + 4 ≡ suc (suc (suc (suc (suc (suc (k * node_stride + 4)))))) = omega arith in
    let f : suc k * node_stride + 5 ≡ suc (suc (suc (suc (suc (suc (k * node_stride + 5)))))) = omega arith in
    rw (f, e, d, c, b, a))

prop-rows : (rs : List PropRow) (w : List ℕ) → tabulate (prop_row (flat_props rs ++ w)) 0 (length rs) ≡ rs
prop-rows = rows-flat (λ r. r.from ∷ r.to ∷ r.first ∷ r.count ∷ []) flat_props prop_row (λ r rs. refl) (λ r t. refl)
    (λ r t k.
    let a : suc k * 4 ≡ suc (suc (suc (suc (k * 4)))) = omega arith in
    let b : suc k * 4 + 1 ≡ suc (suc (suc (suc (k * 4 + 1)))) = omega arith in
    let c : suc k * 4 + 2 ≡ suc (suc (suc (suc (k * 4 + 2)))) = omega arith in
    let d : suc k * 4 + 3 ≡ suc (suc (suc (suc (k * 4 + 3)))) = omega arith in
    rw (d, c, b, a))

val-rows : (rs : List ValRow) (w : List ℕ) → tabulate (val_row (flat_vals rs ++ w)) 0 (length rs) ≡ rs
val-rows = rows-flat (λ r. r.from ∷ r.to ∷ []) flat_vals val_row (λ r rs. refl) (λ r t. refl)
    (λ r t k.
    let a : suc k * 2 ≡ suc (suc (k * 2)) = omega arith in
    let b : suc k * 2 + 1 ≡ suc (suc (k * 2 + 1)) = omega arith in
    rw (b, a))

pub rows-of-flat : (T : Tables) (a b c d : List ℕ) → rows_of (counts_of T) (flat_trees T.trees ++ a) (flat_nodes T.nodes ++ b) (flat_props T.props ++ c) (flat_vals T.vals ++ d) ≡ T
rows-of-flat T a b c d = rw (tree-rows T.trees a, node-rows T.nodes b, prop-rows T.props c, val-rows T.vals d)
