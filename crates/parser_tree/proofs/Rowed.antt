-- Rows put one behind the other, each where there is room for it. Assumes nothing.
use Rattle.lists.proofs.Prelude.{ℕ, ◌+◌, ◌≤◌, ◌≡◌, refl, ap, ◌∙◌, List, [], ◌∷◌, ◌++◌, arith, length, length-append, take, drop, length-take-le, length-drop, leb, leb-true, leb-false}
use Rattle.lists.proofs.Pick.{pick-elim}
use Rattle.lists.specs.Put.{put_at, PutIs, PutWhole}
use Rattle.lists.proofs.Put.{put-none, put-more, put_last}
use Rattle.lexer.specs.Token.{Val, Prop}
use Rattle.tables.specs.Numbers.{none}
use Rattle.tables.specs.Record.{Node, all_props, all_vals}
use Rattle.tables.specs.Rows.{NodeRow, PropRow, ValRow, prop_rows, val_rows}
use Rattle.tables.specs.Flat.{flat_nodes, flat_props, flat_vals}
use Rattle.parser_tree.specs.LocalsFlat.{bare_rows}
use Rattle.parser_tree.specs.LocalsTree.{put_row, put_rows, node_lists, prop_lists, val_lists}

-- the numbers of all rows
unfoldable pub joined : List (List ℕ) → List ℕ
joined [] = []
joined (r ∷ rs) = r ++ joined rs

-- ---- one row

put-length : (t : List ℕ) (at : ℕ) (vs : List ℕ) → at + length vs ≤ length t → length (put_at t at vs) ≡ length t
put-length t at vs h =
    let a = length-append (take at t) (vs ++ drop (at + length vs) t) in
    let b = length-append vs (drop (at + length vs) t) in
    let c = length-take-le at t (omega arith) in
    let d = length-drop (at + length vs) t in
    omega arith

pub row-whole : {t t' vs : List ℕ} {at : ℕ} → PutWhole t at vs t' → t' ≡ put_row t at vs
row-whole {t} {t'} {vs} {at} p = pick-elim (λ (z : List ℕ). t' ≡ z) (leb (at + length vs) (length t)) (λ e. p.is.put (leb-true _ _ e)) (λ e. p.stays (leb-false _ _ e))

row_is : (t : List ℕ) (at : ℕ) (vs : List ℕ) → PutIs t at vs (put_row t at vs)
row_is t at vs =
    pick-elim (λ (z : List ℕ). PutIs t at vs z) (leb (at + length vs) (length t)) (λ e. record { len = put-length t at vs (leb-true (at + length vs) (length t) e); put = λ h. refl })
    (λ e. let f = leb-false (at + length vs) (length t) e in record { len = refl; put = λ h. absurd (omega arith) })

-- the end of a row put anew
pub row-anew : (t xs ys : List ℕ) {zs t2 : List ℕ} (at : ℕ) {k : ℕ} → PutWhole (put_row t at (xs ++ ys)) k zs t2 → k ≡ at + length xs → length zs ≡ length ys → t2 ≡ put_row t at (xs ++ zs)
row-anew t xs ys {zs} {t2} at {k} p e l =
    let x = length-append xs ys in
    let y = length-append xs zs in
    let q = put_last xs ys (row_is t at (xs ++ ys)) p.is e l in
    let n = (row_is t at (xs ++ ys)).len in
    pick-elim (λ (z : List ℕ). t2 ≡ z) (leb (at + length (xs ++ zs)) (length t)) (λ h. q.put (leb-true _ _ h))
    (λ h. let f = leb-false (at + length (xs ++ zs)) (length t) h in p.stays (omega arith) ∙ pick-elim (λ (z : List ℕ). z ≡ t) (leb (at + length (xs ++ ys)) (length t)) (λ m. let g = leb-true (at + length (xs ++ ys)) (length t) m in absurd (omega arith)) (λ m. refl))

-- ---- rows

-- rows behind rows
pub rows_append : (t : List ℕ) (at : ℕ) (xs ys : List (List ℕ)) {k : ℕ} → k ≡ at + length (joined xs) → put_rows t at (xs ++ ys) ≡ put_rows (put_rows t at xs) k ys
unfolding joined put_rows
rows_append t at [] ys {k} e = let f : at ≡ k = omega arith in ap (λ (z : ℕ). put_rows t z ys) f
rows_append t at (x ∷ xs) ys {k} e = rows_append (put_row t at x) (at + length x) xs ys (let l = length-append x (joined xs) in omega arith)

pub rows-one : (t : List ℕ) (at : ℕ) (x : List ℕ) → put_rows t at (x ∷ []) ≡ put_row t at x
unfolding put_rows
rows-one t at x = refl

pub rows_none : (t : List ℕ) (at : ℕ) → put_rows t at [] ≡ t
unfolding put_rows
rows_none t at = refl

pub rows_are : (t : List ℕ) (at : ℕ) (xs : List (List ℕ)) → PutIs t at (joined xs) (put_rows t at xs)
unfolding joined put_rows
rows_are t at [] = put-none t at
rows_are t at (x ∷ xs) = put-more (row_is t at x) (rows_are (put_row t at x) (at + length x) xs) refl

pub rows_long : (t : List ℕ) (at : ℕ) (xs : List (List ℕ)) → length (put_rows t at xs) ≡ length t
rows_long t at xs = (rows_are t at xs).len

-- ---- the rows of the three tables

pub nodes-joined : (rs : List NodeRow) → joined (node_lists rs) ≡ flat_nodes rs
unfolding joined
nodes-joined [] = refl
nodes-joined (r ∷ rs) = ap (λ (z : List ℕ). r.parent ∷ r.child ∷ r.sibling ∷ r.first ∷ r.count ∷ r.depth ∷ z) (nodes-joined rs)

pub props-joined : (rs : List PropRow) → joined (prop_lists rs) ≡ flat_props rs
unfolding joined
props-joined [] = refl
props-joined (r ∷ rs) = ap (λ (z : List ℕ). r.from ∷ r.to ∷ r.first ∷ r.count ∷ z) (props-joined rs)

pub vals-joined : (rs : List ValRow) → joined (val_lists rs) ≡ flat_vals rs
unfolding joined
vals-joined [] = refl
vals-joined (r ∷ rs) = ap (λ (z : List ℕ). r.from ∷ r.to ∷ z) (vals-joined rs)

pub val-lists-append : (xs ys : List Val) → val_lists (val_rows (xs ++ ys)) ≡ val_lists (val_rows xs) ++ val_lists (val_rows ys)
val-lists-append [] ys = refl
val-lists-append (x ∷ xs) ys = ap (λ (z : List (List ℕ)). (x.from ∷ x.to ∷ []) ∷ z) (val-lists-append xs ys)

pub prop-lists-append : (f : ℕ) (xs ys : List Prop) {g : ℕ} → g ≡ f + length (all_vals xs) → prop_lists (prop_rows f (xs ++ ys)) ≡ prop_lists (prop_rows f xs) ++ prop_lists (prop_rows g ys)
prop-lists-append f [] ys {g} e = let h : f ≡ g = omega arith in ap (λ (z : ℕ). prop_lists (prop_rows z ys)) h
prop-lists-append f (x ∷ xs) ys {g} e =
    ap (λ (z : List (List ℕ)). (x.from ∷ x.to ∷ f ∷ length x.vals ∷ []) ∷ z)
    (prop-lists-append (f + length x.vals) xs ys (let l = length-append x.vals (all_vals xs) in omega arith))

pub node-lists-append : (f : ℕ) (xs ys : List Node) {g : ℕ} → g ≡ f + length (all_props xs) → node_lists (bare_rows f (xs ++ ys)) ≡ node_lists (bare_rows f xs) ++ node_lists (bare_rows g ys)
node-lists-append f [] ys {g} e = let h : f ≡ g = omega arith in ap (λ (z : ℕ). node_lists (bare_rows z ys)) h
node-lists-append f (x ∷ xs) ys {g} e =
    ap (λ (z : List (List ℕ)). (x.parent ∷ none ∷ none ∷ f ∷ length x.props ∷ 0 ∷ []) ∷ z)
    (node-lists-append (f + length x.props) xs ys (let l = length-append x.props (all_props xs) in omega arith))
