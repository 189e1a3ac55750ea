-- Reading back, splitting: the tokens of trees are split into these trees, and grow them. Assumes nothing.
use Rattle.lists.proofs.Prelude.{◌≡◌, refl, sym, ap, ◌∙◌, ℕ, suc, ◌+◌, ◌≤◌, ◌<◌, max, arith, Bool, true, false, List, [], ◌∷◌, ◌++◌, map, reverse, reverse_aux, append-nil, ltb, eqb, length, length-map, length-reverse_aux, le-ltb, ne_eqb, pick}
use Rattle.lexer.specs.Token.{Prop, Tok, end, node, prop, start}
use Rattle.lists.specs.All.{All}
use Rattle.parser.specs.Read.{accepted, answer, parse_gametrees, trees_so_far, parse_slices}
use Rattle.parser.specs.Split.{Splitting, deep, filled, no, over, sliced, slices, split, splits, splitting, wrong}
use Rattle.serialize_laws.proofs.Written.{tok_ends, tok_nodes, tok_opened, tok_props, tok_shuts, tok_tree, tok_trees}
use Rattle.serialize.proofs.Branches.{opening}
use Rattle.serialize.specs.LocalsWrite.{Open, bracketed, path_left}
use Rattle.tables.specs.Numbers.{depth_limit, none}
use Rattle.tables.specs.Record.{Node, Tree}
use Rattle.tables.specs.Rows.{parents}
use Rattle.tables.specs.declared.Reason.TheVariants.{TooDeep}
use Rattle.serialize_laws.specs.Back.{placeless_prop, placeless_tree}
use Rattle.serialize_laws.proofs.Regrow.{reverse-reverse_aux, SoundTrees, reads_all}

split-append : (len : Bool) (s : Splitting) (xs ys : List Tok) → split len s (xs ++ ys) ≡ split len (split len s xs) ys
split-append len s [] ys = refl
split-append len s (x ∷ xs) ys = split-append len (splits len s x) xs ys

reverse_aux_append : {A : Type 0} (xs ys zs : List A) → reverse_aux (xs ++ ys) zs ≡ reverse_aux ys (reverse_aux xs zs)
reverse_aux_append [] ys zs = refl
reverse_aux_append (x ∷ xs) ys zs = reverse_aux_append xs ys (x ∷ zs)

abbrev pub up : Bool → ℕ → ℕ
up true n = suc n
up false n = n

abbrev pub brks : List Open → ℕ
brks [] = 0
brks (x ∷ xs) = up x.brk (brks xs)

abbrev pub Low : List Open → Type 0
Low [] = Unit {0}
Low (x ∷ xs) = (x.num < none) × Low xs

split-ends : (p m : ℕ) (path : List Open) (cur : List Tok) (ss : List (List Tok))
    → split false (splitting (suc (brks path)) m cur ss) (tok_ends p path) ≡ splitting (suc (brks (path_left p path))) m (reverse_aux (tok_ends p path) cur) ss
split-ends p m [] cur ss = refl
split-ends p m (x ∷ xs) cur ss = go (eqb x.num p) x.brk refl (λ c. split-ends p m xs c ss)
  where
    go : (b d : Bool) → x.brk ≡ d
        → ((c : List Tok) → split false (splitting (suc (brks xs)) m c ss) (tok_ends p xs) ≡ splitting (suc (brks (path_left p xs))) m (reverse_aux (tok_ends p xs) c) ss)
        → split false (splitting (suc (up x.brk (brks xs))) m cur ss) (pick b [] (tok_shuts x.brk (tok_ends p xs)))
        ≡ splitting (suc (brks (pick b (x ∷ xs) (path_left p xs)))) m (reverse_aux (pick b [] (tok_shuts x.brk (tok_ends p xs))) cur) ss
    go true d e k = refl
    go false true e k = rw e (k (end 0 ∷ cur))
    go false false e k = rw e (k cur)

pub left-none : (path : List Open) → Low path → brks (path_left none path) ≡ 0
left-none [] l = refl
left-none (x ∷ xs) l = rw (ne_eqb x.num none (λ e. omega (arith, l.0))) (left-none xs l.1)

pub left-low : (p : ℕ) (path : List Open) → Low path → Low (path_left p path)
left-low p [] l = tt
left-low p (x ∷ xs) l = go (eqb x.num p) (left-low p xs l.1)
  where
    go : (b : Bool) → Low (path_left p xs) → Low (pick b (x ∷ xs) (path_left p xs))
    go true k = l
    go false k = k

split-props : (d m : ℕ) (qs : List Prop) (cur : List Tok) (ss : List (List Tok)) → split false (splitting d m cur ss) (tok_props qs) ≡ splitting d m (reverse_aux (tok_props qs) cur) ss
split-props d m [] cur ss = refl
split-props d m (q ∷ qs) cur ss = split-props d m qs (prop (placeless_prop q) 0 ∷ cur) ss

-- a bracket, if there is one
split-opened : (b : Bool) (d m : ℕ) (ts cur : List Tok) (ss : List (List Tok))
    → (m2 : ℕ) × (cur2 : List Tok) × (split false (splitting (suc d) m cur ss) (tok_opened b ts) ≡ split false (splitting (suc (up b d)) m2 cur2 ss) ts)
    × (reverse_aux (tok_opened b ts) cur ≡ reverse_aux ts cur2)
split-opened true d m ts cur ss = (max m (suc (suc d)), start 0 ∷ cur, refl, refl)
split-opened false d m ts cur ss = (m, cur, refl, refl)

split-nodes : (ps : List ℕ) (k : ℕ) (path : List Open) (ns : List Node) (m : ℕ) (cur : List Tok) (ss : List (List Tok)) → Low path → k + length ns ≤ none
    → (m2 : ℕ) × (split false (splitting (suc (brks path)) m cur ss) (tok_nodes ps k path ns) ≡ splitting 1 m2 (reverse_aux (tok_nodes ps k path ns) cur) ss)
split-nodes ps k path [] m cur ss l kl = (m, split-ends none m path cur ss ∙ ap (λ (n : ℕ). splitting (suc n) m (reverse_aux (tok_ends none path) cur) ss) (left-none path l))
split-nodes ps k path (n ∷ ns) m cur ss l kl =
    let p : ℕ = n.parent in
    let b : Bool = bracketed ps p in
    let path2 : List Open = opening ps k p ∷ path_left p path in
    let rest : List Tok = tok_nodes ps (suc k) path2 ns in
    let ts : List Tok = node 0 ∷ (tok_props n.props ++ rest) in
    let o = split-opened b (brks (path_left p path)) m ts (reverse_aux (tok_ends p path) cur) ss in
    let x = split-nodes ps (suc k) path2 ns o.0 (reverse_aux (tok_props n.props) (node 0 ∷ o.1)) ss (omega arith, left-low p path l) (omega arith) in (
      x.0,
      split-append false (splitting (suc (brks path)) m cur ss) (tok_ends p path) (tok_opened b ts)
          ∙ ap (λ (z : Splitting). split false z (tok_opened b ts)) (split-ends p m path cur ss)
          ∙ o.2
          ∙ split-append false (splitting (suc (brks path2)) o.0 (node 0 ∷ o.1) ss) (tok_props n.props) rest
          ∙ ap (λ (z : Splitting). split false z rest) (split-props (suc (brks path2)) o.0 n.props (node 0 ∷ o.1) ss)
          ∙ x.1
          ∙ ap (λ (z : List Tok). splitting 1 x.0 z ss)
          (sym (reverse_aux_append (tok_ends p path) (tok_opened b ts) cur ∙ o.3 ∙ reverse_aux_append (tok_props n.props) rest (node 0 ∷ o.1))),
    )

split-tree : (t : Tree) (m : ℕ) (ss : List (List Tok)) → t.root + length t.nodes ≤ none
    → (m2 : ℕ) × (split false (splitting 0 m [] ss) (tok_tree t) ≡ splitting 0 m2 [] (tok_tree t ∷ ss))
split-tree t m ss l =
    let ts : List Tok = tok_nodes (parents t.nodes) t.root [] t.nodes in
    let x = split-nodes (parents t.nodes) t.root [] t.nodes (max m 1) (start 0 ∷ []) ss tt l in (
      x.0,
      split-append false (splitting 1 (max m 1) (start 0 ∷ []) ss) ts (end 0 ∷ [])
          ∙ ap (λ (z : Splitting). split false z (end 0 ∷ [])) x.1
          ∙ ap (λ (z : List Tok). splitting 0 x.0 [] (z ∷ ss)) (reverse-reverse_aux ts (start 0 ∷ []) (end 0 ∷ [])),
    )

abbrev pub Few : List Tree → Type 0
Few ts = All (λ (t : Tree). t.root + length t.nodes ≤ none) ts

pub split-trees : (ts : List Tree) (m : ℕ) (ss : List (List Tok)) → Few ts
    → (m2 : ℕ) × (split false (splitting 0 m [] ss) (tok_trees ts) ≡ splitting 0 m2 [] (reverse_aux (map tok_tree ts) ss))
split-trees [] m ss l = (m, refl)
split-trees (t ∷ ts) m ss l =
    let x = split-tree t m ss l.0 in
    let y = split-trees ts x.0 (tok_tree t ∷ ss) l.1 in
    (y.0, split-append false (splitting 0 m [] ss) (tok_tree t) (tok_trees ts) ∙ ap (λ (z : Splitting). split false z (tok_trees ts)) x.1 ∙ y.1)

abbrev pub deepest : Splitting → ℕ
deepest (splitting d m cur ss) = m
deepest (over m ss) = m
deepest (wrong n) = 0

pub filled-any : (m : ℕ) (X : List (List Tok)) → 0 < length X → filled false m X ≡ deep m (reverse X)
filled-any m [] h = absurd (omega arith)
filled-any m (x ∷ xs) h = refl

-- the answer for the tokens of a writing
pub planted-written : (ts : List Tree) → 0 < length ts → SoundTrees 0 ts → Few ts → deepest (split false (splitting 0 0 [] []) (tok_trees ts)) ≤ 1024
    → parse_slices false (sliced false (split false (splitting 0 0 [] []) (tok_trees ts))) ≡ accepted (map placeless_tree ts)
planted-written ts ne s l d =
    let x = split-trees ts 0 [] l in
    let X : List (List Tok) = reverse_aux (map tok_tree ts) [] in
    let lx : length X ≡ length ts = length-reverse_aux (map tok_tree ts) [] ∙ omega (arith, length-map ts tok_tree) in
    let r = reads_all 0 ts [] s in
    let dx : ltb depth_limit x.0 ≡ false = le-ltb depth_limit x.0 (omega (arith, ap deepest x.1)) in
    ap (λ (z : Splitting). parse_slices false (sliced false z)) x.1
    ∙ ap (parse_slices false) (filled-any x.0 X (omega (arith, lx)))
    ∙ ap (λ (b : Bool). parse_slices false (pick b (no TooDeep) (slices (reverse X)))) dx
    ∙ ap (λ (z : List (List Tok)). answer (parse_gametrees false (trees_so_far 0 []) z)) (reverse-reverse_aux (map tok_tree ts) [] [] ∙ append-nil (map tok_tree ts))
    ∙ ap answer r.1
    ∙ ap accepted (reverse-reverse_aux (map placeless_tree ts) [] [] ∙ append-nil (map placeless_tree ts))
