-- The cells of a table's first rows are the numbers of these rows. Assumes nothing.
use Rattle.lists.proofs.Prelude.{ℕ, zero, suc, ◌+◌, ◌*◌, ◌≤◌, List, [], ◌∷◌, ◌++◌, ◌≡◌, refl, sym, ap, ap₂, ◌∙◌, arith, length, take, drop, get_or, drop-cons, drop-drop, take-add}
use Rattle.tables.specs.Each.{tabulate}
use Rattle.tables.specs.Flat.{flat_trees, flat_nodes, flat_props, flat_vals}
use Rattle.fit.specs.Record.{tree_row, node_row, prop_row, val_row}

-- a part of a list, number by number
part-cells : (t : List ℕ) (o m k : ℕ) → o + (k + m) ≤ length t → take m (drop (o + k) t) ≡ tabulate (λ i. get_or t (o + i) 0) k m
unfolding tabulate
part-cells t o zero k h = refl
part-cells t o (suc m) k h =
    let n : suc (o + k) ≡ o + suc k = omega arith in
    ap (take (suc m)) (drop-cons t (o + k) 0 (omega arith))
    ∙ ap (λ (z : List ℕ). get_or t (o + k) 0 ∷ z) (ap (λ (z : ℕ). take m (drop z t)) n ∙ part-cells t o m (suc k) (omega arith))

part-first : (t : List ℕ) (o m : ℕ) → o + m ≤ length t → take m (drop o t) ≡ tabulate (λ i. get_or t (o + i) 0) 0 m
part-first t o m h = let n : o ≡ o + 0 = omega arith in ap (λ (z : ℕ). take m (drop z t)) n ∙ part-cells t o m 0 (omega arith)

-- of a table of any width
module _ {A : Type 0} (w : ℕ) (cells : A → List ℕ) (flat : List A → List ℕ) (row : List ℕ → ℕ → A)
    (flat-none : flat [] ≡ []) (flat-cons : (r : A) (rs : List A) → flat (r ∷ rs) ≡ cells r ++ flat rs)
    (row-cells : (t : List ℕ) (k : ℕ) → k * w + w ≤ length t → cells (row t k) ≡ take w (drop (k * w) t)) where
  rows-from : (t : List ℕ) (n k : ℕ) → k * w + n * w ≤ length t → flat (tabulate (row t) k n) ≡ take (n * w) (drop (k * w) t)
  unfolding tabulate
  rows-from t zero k h = let z : 0 ≡ 0 * w = omega arith in flat-none ∙ ap (λ (i : ℕ). take i (drop (k * w) t)) z
  rows-from t (suc n) k h =
      let i : w + n * w ≡ suc n * w = omega arith in
      let j : k * w + w ≡ suc k * w = omega arith in
      flat-cons (row t k) (tabulate (row t) (suc k) n)
      ∙ ap₂ (λ (x y : List ℕ). x ++ y) (row-cells t k (omega arith)) (rows-from t n (suc k) (omega arith) ∙ ap (take (n * w)) (ap (λ (z : ℕ). drop z t) (sym j) ∙ sym (drop-drop w (k * w) t)))
      ∙ sym (take-add w (n * w) (drop (k * w) t))
      ∙ ap (λ (z : ℕ). take z (drop (k * w) t)) i

  rows-cells : (t : List ℕ) (n : ℕ) → n * w ≤ length t → flat (tabulate (row t) 0 n) ≡ take (n * w) t
  rows-cells t n h = let z : 0 * w ≡ 0 = omega arith in rows-from t n 0 (omega arith) ∙ ap (λ (i : ℕ). take (n * w) (drop i t)) z

pub tree-cells : (t : List ℕ) (n : ℕ) → n * 2 ≤ length t → flat_trees (tabulate (tree_row t) 0 n) ≡ take (n * 2) t
unfolding tabulate
tree-cells = rows-cells 2 (λ r. r.root ∷ r.game ∷ []) flat_trees tree_row refl (λ r rs. refl)
    (λ t k h. let n : k * 2 ≡ k * 2 + 0 = omega arith in ap (λ (z : ℕ). get_or t z 0 ∷ get_or t (k * 2 + 1) 0 ∷ []) n ∙ sym (part-first t (k * 2) 2 h))

pub node-cells : (t : List ℕ) (n : ℕ) → n * 6 ≤ length t → flat_nodes (tabulate (node_row t) 0 n) ≡ take (n * 6) t
unfolding tabulate
node-cells = rows-cells 6 (λ r. r.parent ∷ r.child ∷ r.sibling ∷ r.first ∷ r.count ∷ r.depth ∷ []) flat_nodes node_row refl (λ r rs. refl)
    (λ t k h.
    let n : k * 6 ≡ k * 6 + 0 = omega arith in
    ap (λ (z : ℕ). get_or t z 0 ∷ get_or t (k * 6 + 1) 0 ∷ get_or t (k * 6 + 2) 0 ∷ get_or t (k * 6 + 3) 0 ∷ get_or t (k * 6 + 4) 0 ∷ get_or t (k * 6 + 5) 0 ∷ []) n ∙ sym (part-first t (k * 6) 6 h))

pub property-cells : (t : List ℕ) (n : ℕ) → n * 4 ≤ length t → flat_props (tabulate (prop_row t) 0 n) ≡ take (n * 4) t
unfolding tabulate
property-cells = rows-cells 4 (λ r. r.from ∷ r.to ∷ r.first ∷ r.count ∷ []) flat_props prop_row refl (λ r rs. refl)
    (λ t k h.
    let n : k * 4 ≡ k * 4 + 0 = omega arith in
    ap (λ (z : ℕ). get_or t z 0 ∷ get_or t (k * 4 + 1) 0 ∷ get_or t (k * 4 + 2) 0 ∷ get_or t (k * 4 + 3) 0 ∷ []) n ∙ sym (part-first t (k * 4) 4 h))

pub value-cells : (t : List ℕ) (n : ℕ) → n * 2 ≤ length t → flat_vals (tabulate (val_row t) 0 n) ≡ take (n * 2) t
unfolding tabulate
value-cells = rows-cells 2 (λ r. r.from ∷ r.to ∷ []) flat_vals val_row refl (λ r rs. refl)
    (λ t k h. let n : k * 2 ≡ k * 2 + 0 = omega arith in ap (λ (z : ℕ). get_or t z 0 ∷ get_or t (k * 2 + 1) 0 ∷ []) n ∙ sym (part-first t (k * 2) 2 h))
