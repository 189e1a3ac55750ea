-- Rows that have ranges without gap are the rows of what they denote. Assumes nothing.
use Rattle.lists.proofs.Prelude.{◌≡◌, refl, sym, ap, ap₂, ◌∙◌, ℕ, zero, suc, ◌+◌, ◌≤◌, ◌<◌, arith, true, List, [], ◌∷◌, map, length, take, drop}
use Rattle.lexer.specs.Token.{Val, Prop}
use Rattle.tables.specs.Record.{Node}
use Rattle.tables.specs.Rows.{TreeRow, NodeRow, PropRow, ValRow, parents, tree_rows, node_rows, prop_rows, val_rows}
use Rattle.tables.specs.Columns.{parent_at, first_prop_at, prop_count_at, name_from_at, name_to_at, first_val_at, val_count_at}
use Rattle.tables.specs.Each.{sum, tabulate}
use Rattle.fit_spans.specs.Ranges.{gapless}
use Rattle.fit.specs.Record.{node_row, prop_row, val_of, prop_of, node_of, trees_of}
use Rattle.fit.proofs.Parts.{part_length}
use Rattle.fit.proofs.RecordLinks.{Linked}
use Rattle.fit_spans.proofs.Ranges.{sum-suc, gapless-first}

-- ---- trees

pub tree-rows-back : (ns : List Node) (rs : List TreeRow) → tree_rows (trees_of ns rs) ≡ rs
tree-rows-back ns [] = refl
tree-rows-back ns (r ∷ []) = refl
tree-rows-back ns (r ∷ s ∷ rs) = ap (λ (z : List TreeRow). r ∷ z) (tree-rows-back ns (s ∷ rs))

-- ---- nodes

node_row_lem : (p : ℕ) {c c' s s' f f' n n' d d' : ℕ} → c ≡ c' → s ≡ s' → f ≡ f' → n ≡ n' → d ≡ d'
    → ◌≡◌ {A = NodeRow} (record { parent = p; child = c; sibling = s; first = f; count = n; depth = d }) (record { parent = p; child = c'; sibling = s'; first = f'; count = n'; depth = d' })
node_row_lem p a b c d e = rw (a, b, c, d, e)

module _ (nd : List ℕ) (ps : List Prop) (n : ℕ) (g : gapless (first_prop_at nd) (prop_count_at nd) n (length ps) ≡ true) where
  abbrev nodes_at : (b m : ℕ) → List Node
  nodes_at b m = map (node_of ps) (tabulate (node_row nd) b m)

  pub parents-are : (b m : ℕ) → parents (nodes_at b m) ≡ tabulate (parent_at nd) b m
  unfolding tabulate
  parents-are b zero = refl
  parents-are b (suc m) = ap (λ (z : List ℕ). parent_at nd b ∷ z) (parents-are (suc b) m)

  node-rows-from : (qs : List ℕ) → ((i : ℕ) → i < n → Linked nd qs i)
      → (b m : ℕ) → b + m ≤ n → node_rows qs b (sum (prop_count_at nd) b) (nodes_at b m) ≡ tabulate (node_row nd) b m
  unfolding tabulate
  node-rows-from qs links b zero l = refl
  node-rows-from qs links b (suc m) l =
      let k = links b (omega arith) in
      let c = part_length ps (first_prop_at nd) (prop_count_at nd) n g b (omega arith) in
      let e : sum (prop_count_at nd) b + length (take (prop_count_at nd b) (drop (first_prop_at nd b) ps)) ≡ sum (prop_count_at nd) (suc b) =
      ap (λ (z : ℕ). sum (prop_count_at nd) b + z) c ∙ sym (sum-suc (first_prop_at nd) (prop_count_at nd) b) in
      ap₂ (λ (x : NodeRow) (z : List NodeRow). x ∷ z)
      (node_row_lem (parent_at nd b) (sym k.0) (sym k.1) (sym (gapless-first (first_prop_at nd) (prop_count_at nd) n (length ps) g b (omega arith))) c (sym k.2))
      (ap (λ (z : ℕ). node_rows qs (suc b) z (nodes_at (suc b) m)) e ∙ node-rows-from qs links (suc b) m (omega arith))

  pub node-rows-back : (qs : List ℕ) → ((i : ℕ) → i < n → Linked nd qs i)
      → node_rows qs 0 0 (nodes_at 0 n) ≡ tabulate (node_row nd) 0 n
  unfolding sum
  node-rows-back qs links = node-rows-from qs links 0 n (omega arith)

-- ---- properties

prop-row : (a e : ℕ) {f f' n n' : ℕ} → f ≡ f' → n ≡ n' → ◌≡◌ {A = PropRow} (record { from = a; to = e; first = f; count = n }) (record { from = a; to = e; first = f'; count = n' })
prop-row a e c d = rw (c, d)

module _ (t pr : List ℕ) (vs : List Val) (n : ℕ) (g : gapless (first_val_at pr) (val_count_at pr) n (length vs) ≡ true) where
  abbrev props_at : (b m : ℕ) → List Prop
  props_at b m = map (prop_of t vs) (tabulate (prop_row pr) b m)

  prop-rows-from : (b m : ℕ) → b + m ≤ n → prop_rows (sum (val_count_at pr) b) (props_at b m) ≡ tabulate (prop_row pr) b m
  unfolding tabulate
  prop-rows-from b zero l = refl
  prop-rows-from b (suc m) l =
      let c = part_length vs (first_val_at pr) (val_count_at pr) n g b (omega arith) in
      let e : sum (val_count_at pr) b + length (take (val_count_at pr b) (drop (first_val_at pr b) vs)) ≡ sum (val_count_at pr) (suc b) =
      ap (λ (z : ℕ). sum (val_count_at pr) b + z) c ∙ sym (sum-suc (first_val_at pr) (val_count_at pr) b) in
      ap₂ (λ (x : PropRow) (z : List PropRow). x ∷ z)
      (prop-row (name_from_at pr b) (name_to_at pr b) (sym (gapless-first (first_val_at pr) (val_count_at pr) n (length vs) g b (omega arith))) c)
      (ap (λ (z : ℕ). prop_rows z (props_at (suc b) m)) e ∙ prop-rows-from (suc b) m (omega arith))

  pub prop-rows-back : prop_rows 0 (props_at 0 n) ≡ tabulate (prop_row pr) 0 n
  unfolding sum
  prop-rows-back = prop-rows-from 0 n (omega arith)

pub val-rows-back : (t : List ℕ) (rs : List ValRow) → val_rows (map (val_of t) rs) ≡ rs
val-rows-back t [] = refl
val-rows-back t (r ∷ rs) = ap (λ (z : List ValRow). r ∷ z) (val-rows-back t rs)
