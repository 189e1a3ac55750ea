-- The numbers of rows: of joined lists, and how many there are. Assumes nothing.
use Rattle.lists.proofs.Prelude.{ℕ, ◌+◌, ◌*◌, ◌≡◌, refl, sym, ap, ◌∙◌, List, [], ◌∷◌, ◌++◌, append_assoc, arith, length, length-append}
use Rattle.lexer.specs.Token.{Val, Prop}
use Rattle.tables.specs.Numbers.{none}
use Rattle.tables.specs.Record.{Node, all_props, all_vals}
use Rattle.tables.specs.Rows.{prop_rows, val_rows}
use Rattle.tables.specs.Flat.{flat_nodes, flat_props, flat_vals}
use Rattle.tables.specs.Columns.{node_stride}
use Rattle.parser_tree.specs.LocalsFlat.{bare_rows}

pub val-append : (xs ys : List Val) → flat_vals (val_rows (xs ++ ys)) ≡ flat_vals (val_rows xs) ++ flat_vals (val_rows ys)
val-append [] ys = refl
val-append (x ∷ xs) ys = ap (λ (z : List ℕ). x.from ∷ x.to ∷ z) (val-append xs ys)

pub val-length : (xs : List Val) → length (flat_vals (val_rows xs)) ≡ length xs * 2
val-length [] = refl
val-length (x ∷ xs) = let h = val-length xs in omega arith

pub vals-append : (xs ys : List Prop) → all_vals (xs ++ ys) ≡ all_vals xs ++ all_vals ys
vals-append [] ys = refl
vals-append (x ∷ xs) ys = ap (λ (z : List Val). x.vals ++ z) (vals-append xs ys) ∙ sym (append_assoc x.vals (all_vals xs) (all_vals ys))

pub props-append : (xs ys : List Node) → all_props (xs ++ ys) ≡ all_props xs ++ all_props ys
props-append [] ys = refl
props-append (x ∷ xs) ys = ap (λ (z : List Prop). x.props ++ z) (props-append xs ys) ∙ sym (append_assoc x.props (all_props xs) (all_props ys))

pub prop-append : (f : ℕ) (xs ys : List Prop) → flat_props (prop_rows f (xs ++ ys)) ≡ flat_props (prop_rows f xs) ++ flat_props (prop_rows (f + length (all_vals xs)) ys)
prop-append f [] ys = let e : f + 0 ≡ f = omega arith in ap (λ (z : ℕ). flat_props (prop_rows z ys)) (sym e)
prop-append f (x ∷ xs) ys =
    let e : f + length x.vals + length (all_vals xs) ≡ f + length (x.vals ++ all_vals xs) = omega (arith, length-append x.vals (all_vals xs)) in
    ap (λ (z : List ℕ). x.from ∷ x.to ∷ f ∷ length x.vals ∷ z)
    (prop-append (f + length x.vals) xs ys ∙ ap (λ (z : ℕ). flat_props (prop_rows (f + length x.vals) xs) ++ flat_props (prop_rows z ys)) e)

pub prop-length : (f : ℕ) (xs : List Prop) → length (flat_props (prop_rows f xs)) ≡ length xs * 4
prop-length f [] = refl
prop-length f (x ∷ xs) = let h = prop-length (f + length x.vals) xs in omega arith

pub node-append : (f : ℕ) (xs ys : List Node) → flat_nodes (bare_rows f (xs ++ ys)) ≡ flat_nodes (bare_rows f xs) ++ flat_nodes (bare_rows (f + length (all_props xs)) ys)
node-append f [] ys = let e : f + 0 ≡ f = omega arith in ap (λ (z : ℕ). flat_nodes (bare_rows z ys)) (sym e)
node-append f (x ∷ xs) ys =
    let e : f + length x.props + length (all_props xs) ≡ f + length (x.props ++ all_props xs) = omega (arith, length-append x.props (all_props xs)) in
    ap (λ (z : List ℕ). x.parent ∷ none ∷ none ∷ f ∷ length x.props ∷ 0 ∷ z)
    (node-append (f + length x.props) xs ys ∙ ap (λ (z : ℕ). flat_nodes (bare_rows (f + length x.props) xs) ++ flat_nodes (bare_rows z ys)) e)

pub node-length : (f : ℕ) (xs : List Node) → length (flat_nodes (bare_rows f xs)) ≡ length xs * node_stride
node-length f [] = refl
node-length f (x ∷ xs) = let h = node-length (f + length x.props) xs in omega arith
