-- The depth of a writing by its nodes' parents alone: so mending leaves it, and so does the form of the values. Assumes nothing.
use Rattle.lists.proofs.Prelude.{◌≡◌, refl, sym, ap, ap₂, ◌∙◌, ℕ, suc, ◌+◌, ◌-◌, ◌≤◌, max, arith, Bool, true, false, List, [], ◌∷◌, ◌++◌, map, append_assoc, eqb, length, pick}
use Rattle.lexer.specs.Token.{Prop, Tok, end, node}
use Rattle.tables.specs.Numbers.{none}
use Rattle.tables.specs.Record.{Node, Tree}
use Rattle.tables.specs.Rows.{parents}
use Rattle.fit_rule.specs.Rule.{rule_of}
use Rattle.serialize.specs.Form.{form_node, form_tree, writing}
use Rattle.serialize.specs.LocalsWrite.{Open, bracketed, path_left}
use Rattle.serialize.proofs.Branches.{opening}
use Rattle.serialize_laws.specs.Depth.{deepest_from, depth_of}
use Rattle.serialize_laws.proofs.Deep.{at_least, tokens-depth}
use Rattle.serialize_laws.proofs.Normal.{normal-form}
use Rattle.serialize_laws.proofs.ReadBack.{Form, walk-writes}
use Rattle.serialize_laws.proofs.Resplit.{up, brks, Low, left-none, left-low, Few}
use Rattle.serialize_laws.proofs.Written.{tok_ends, tok_nodes, tok_opened, tok_props, tok_shuts, tok_tree, tok_trees}
use Rattle.salvage_mend.specs.Mend.{root_game, gms_bad, mend_node, mend_nodes, mend_tree, mended}

-- the most brackets that are open at one of the nodes with these parents, from number k on, in one tree
abbrev pub highest : (ps : List ℕ) (k : ℕ) → List Open → List ℕ → ℕ
highest ps k path [] = 0
highest ps k path (q ∷ qs) = max (suc (brks (opening ps k q ∷ path_left q path))) (highest ps (suc k) (opening ps k q ∷ path_left q path) qs)

-- over trees
abbrev pub highest_of : List Tree → ℕ
highest_of [] = 0
highest_of (t ∷ ts) = max 1 (max (highest (parents t.nodes) t.root [] (parents t.nodes)) (highest_of ts))

-- ---- the tokens

deep-ends : (p : ℕ) (path : List Open) (rest : List Tok)
    → deepest_from (suc (brks path)) (tok_ends p path ++ rest) ≡ max (suc (brks path)) (deepest_from (suc (brks (path_left p path))) rest)
deep-ends p [] rest = omega (arith, at_least 1 rest)
deep-ends p (x ∷ xs) rest = go (eqb x.num p) x.brk refl (deep-ends p xs rest)
  where
    go : (b d : Bool) → x.brk ≡ d
        → deepest_from (suc (brks xs)) (tok_ends p xs ++ rest) ≡ max (suc (brks xs)) (deepest_from (suc (brks (path_left p xs))) rest)
        → deepest_from (suc (up x.brk (brks xs))) (pick b [] (tok_shuts x.brk (tok_ends p xs)) ++ rest)
        ≡ max (suc (up x.brk (brks xs))) (deepest_from (suc (brks (pick b (x ∷ xs) (path_left p xs)))) rest)
    go true d e k = omega (arith, at_least (suc (up x.brk (brks xs))) rest)
    go false true e k =
        let z : suc (suc (brks xs)) - 1 ≡ suc (brks xs) = omega arith in
        let y : deepest_from (suc (suc (brks xs)) - 1) (tok_ends p xs ++ rest) ≡ deepest_from (suc (brks xs)) (tok_ends p xs ++ rest) = ap (λ (d : ℕ). deepest_from d (tok_ends p xs ++ rest)) z in
        rw e (omega (arith, y, k))
    go false false e k = rw e k

up_least : (b : Bool) (d : ℕ) → d ≤ up b d
up_least true d = omega arith
up_least false d = omega arith

deep-opened : (b : Bool) (d : ℕ) (ts rest : List Tok) → deepest_from (suc d) (tok_opened b (node 0 ∷ ts) ++ rest) ≡ max (suc d) (deepest_from (suc (up b d)) (ts ++ rest))
deep-opened true d ts rest = refl
deep-opened false d ts rest = omega (arith, at_least (suc d) (ts ++ rest))

deep-props : (d : ℕ) (qs : List Prop) (ts rest : List Tok) → deepest_from d ((tok_props qs ++ ts) ++ rest) ≡ deepest_from d (ts ++ rest)
deep-props d [] ts rest = refl
deep-props d (q ∷ qs) ts rest = deep-props d qs ts rest

max-join : (x y z h d : ℕ) → y ≤ z → max x (max y (max z (max h d))) ≡ max x (max (max z h) d)
max-join x y z h d l = ap (max x) (absorbs (max h d) ∙ joins)
  where
    absorbs : (w : ℕ) → max y (max z w) ≡ max z w
    absorbs w = omega (arith, l)

    joins : max z (max h d) ≡ max (max z h) d
    joins = omega arith

deep-nodes : (ps : List ℕ) (k : ℕ) (path : List Open) (ns : List Node) (rest : List Tok) → Low path → k + length ns ≤ none
    → deepest_from (suc (brks path)) (tok_nodes ps k path ns ++ rest) ≡ max (suc (brks path)) (max (highest ps k path (parents ns)) (deepest_from 1 rest))
deep-nodes ps k path [] rest l kl =
    let z : deepest_from (suc (brks (path_left none path))) rest ≡ deepest_from 1 rest = ap (λ (d : ℕ). deepest_from (suc d) rest) (left-none path l) in
    omega (arith, deep-ends none path rest)
deep-nodes ps k path (n ∷ ns) rest l kl =
    let p : ℕ = n.parent in
    let b : Bool = bracketed ps p in
    let path2 : List Open = opening ps k p ∷ path_left p path in
    let more : List Tok = tok_nodes ps (suc k) path2 ns in
    let ts : List Tok = tok_props n.props ++ more in
    let B : ℕ = suc (brks path) in
    let B2 : ℕ = suc (brks (path_left p path)) in
    ap (deepest_from B) (append_assoc (tok_ends p path) (tok_opened b (node 0 ∷ ts)) rest)
    ∙ deep-ends p path (tok_opened b (node 0 ∷ ts) ++ rest)
    ∙ ap (max B) (deep-opened b (brks (path_left p path)) ts rest)
    ∙ ap (λ (d : ℕ). max B (max B2 d))
    (deep-props (suc (brks path2)) n.props more rest ∙ deep-nodes ps (suc k) path2 ns rest (omega arith, left-low p path l) (omega arith))
    ∙ max-join B B2 (suc (brks path2)) (highest ps (suc k) path2 (parents ns)) (deepest_from 1 rest) (omega (arith, up_least b (brks (path_left p path))))

deep-tree : (t : Tree) (rest : List Tok) → t.root + length t.nodes ≤ none
    → deepest_from 0 (tok_tree t ++ rest) ≡ max 1 (max (highest (parents t.nodes) t.root [] (parents t.nodes)) (deepest_from 0 rest))
deep-tree t rest l =
    let xs : List Tok = tok_nodes (parents t.nodes) t.root [] t.nodes in
    let a = ap (deepest_from 1) (append_assoc xs (end 0 ∷ []) rest) in
    let i = deep-nodes (parents t.nodes) t.root [] t.nodes (end 0 ∷ rest) tt l in
    let z : 1 - 1 ≡ 0 = omega arith in
    let y : deepest_from (1 - 1) rest ≡ deepest_from 0 rest = ap (λ (d : ℕ). deepest_from d rest) z in
    omega arith

deep-trees : (ts : List Tree) → Few ts → deepest_from 0 (tok_trees ts) ≡ highest_of ts
deep-trees [] l = refl
deep-trees (t ∷ ts) l =
    deep-tree t (tok_trees ts) l.0
    ∙ ap (λ (d : ℕ). max 1 (max (highest (parents t.nodes) t.root [] (parents t.nodes)) d)) (deep-trees ts l.1)

-- ---- parents alone count

pub parents-map : (f : Node → Node) → ((n : Node) → (f n).parent ≡ n.parent) → (ns : List Node) → parents (map f ns) ≡ parents ns
parents-map f h [] = refl
parents-map f h (n ∷ ns) = ap₂ (λ (x : ℕ) (y : List ℕ). x ∷ y) (h n) (parents-map f h ns)

one-tree : (t u : Tree) (ts us : List Tree) → u.root ≡ t.root → parents u.nodes ≡ parents t.nodes → highest_of us ≡ highest_of ts → highest_of (u ∷ us) ≡ highest_of (t ∷ ts)
one-tree t u ts us r p e =
    ap₂ (λ (d : ℕ) (qs : List ℕ). max 1 (max (highest qs d [] qs) (highest_of us))) r p
    ∙ ap (λ (d : ℕ). max 1 (max (highest (parents t.nodes) t.root [] (parents t.nodes)) d)) e

form-highest : (ts : List Tree) → highest_of (map form_tree ts) ≡ highest_of ts
form-highest [] = refl
form-highest (t ∷ ts) = one-tree t (form_tree t) ts (map form_tree ts) refl (parents-map (form_node (rule_of t)) (λ n. refl) t.nodes) (form-highest ts)

pub parents-mended : (bad : Bool) (ns : List Node) → parents (mend_nodes bad ns) ≡ parents ns
parents-mended bad [] = refl
parents-mended bad (n ∷ ns) = ap (λ (z : List ℕ). n.parent ∷ z) (parents-map (mend_node false) (λ m. refl) ns)

pub mended-highest : (ts : List Tree) → highest_of (mended ts) ≡ highest_of ts
mended-highest [] = refl
mended-highest (t ∷ ts) = one-tree t (mend_tree t) ts (mended ts) refl (parents-mended (gms_bad (root_game t.nodes)) t.nodes) (mended-highest ts)

pub writing-depth : (ts : List Tree) → Form ts → depth_of (writing ts) ≡ highest_of ts
writing-depth ts f =
    let g : Form (map form_tree ts) = normal-form ts f in
    ap depth_of (sym (walk-writes (map form_tree ts) g))
    ∙ tokens-depth (map form_tree ts) g
    ∙ deep-trees (map form_tree ts) g.few
    ∙ form-highest ts
