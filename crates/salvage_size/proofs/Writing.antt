-- How long a writing is: each open node that stands in brackets is closed once, so its nodes say it. Assumes nothing.
use Rattle.lists.proofs.Prelude.{◌≡◌, refl, sym, ap, ap₂, ◌∙◌, ℕ, suc, ◌+◌, ◌*◌, ◌≤◌, arith, Bool, true, false, List, [], ◌∷◌, ◌++◌, map, length, length-append, eqb, pick}
use Rattle.lexer.specs.Token.{Prop}
use Rattle.tables.specs.Numbers.{none}
use Rattle.tables.specs.Record.{Node, Tree}
use Rattle.tables.specs.Rows.{parents}
use Rattle.fit_rule.specs.Rule.{rule_of}
use Rattle.parser.specs.Read.{accepted, read_lenient}
use Rattle.serialize.specs.Branch.{write_props}
use Rattle.serialize.specs.Form.{form_prop, form_node, form_tree, writing}
use Rattle.serialize.specs.LocalsWrite.{Open, bracketed, shuts, ends_text, path_left, opened, write_nodes, write_tree, write_trees}
use Rattle.serialize.proofs.Branches.{opening}
use Rattle.serialize_laws.proofs.Normal.{normal-form}
use Rattle.serialize_laws.proofs.ReadBack.{Form, walk-writes}
use Rattle.serialize_laws.proofs.Resplit.{up, brks, Low, left-none, left-low, Few}
use Rattle.salvage_mend.specs.Mend.{mended}
use Rattle.salvage_form.proofs.Measuring.{props-length}
use Rattle.salvage_laws.proofs.Theorem.{lenient-form}
use Rattle.salvage_depth.proofs.Opened.{parents-map}
use Rattle.salvage_shape.specs.LocalsShape.{raised, brackets_in, brackets_of}
use Rattle.salvage_size.specs.LocalsSize.{props_size, nodes_size, tree_size, trees_size}

props-size : (rule : ℕ) (ps : List Prop) → length (write_props (map (form_prop rule) ps)) ≡ props_size rule ps
props-size rule [] = refl
props-size rule (p ∷ ps) = let i = props-size rule ps in let h = props-length rule p ps in omega (arith, i, h)

-- ---- brackets

ends-length : (p : ℕ) (path : List Open) → length (ends_text p path) + brks (path_left p path) ≡ brks path
ends-length p [] = refl
ends-length p (x ∷ xs) = go (eqb x.num p) x.brk refl (ends-length p xs)
  where
    go : (b d : Bool) → x.brk ≡ d → length (ends_text p xs) + brks (path_left p xs) ≡ brks xs
        → length (pick b [] (shuts x.brk (ends_text p xs))) + brks (pick b (x ∷ xs) (path_left p xs)) ≡ up x.brk (brks xs)
    go true d e h = omega arith
    go false true e h = rw e (omega (arith, h))
    go false false e h = rw e h

-- a node: its start and the end that comes later, where it stands in brackets
node-step : (b : Bool) (e l t p s c : ℕ) (w : List ℕ) → length w ≡ suc (p + (up b l + (s + 2 * c))) → e + l ≡ t → e + length (opened b w) ≡ t + ((suc p + s) + 2 * raised b c)
node-step true e l t p s c w h g = omega (arith, h, g)
node-step false e l t p s c w h g = omega (arith, h, g)

-- ---- nodes and trees

nodes-size : (rule : ℕ) (ps : List ℕ) (k : ℕ) (path : List Open) (ns : List Node) → Low path → k + length ns ≤ none
    → length (write_nodes ps k path (map (form_node rule) ns)) ≡ brks path + (nodes_size rule ns + 2 * brackets_in ps (parents ns))
nodes-size rule ps k path [] l kl = let a = ends-length none path in let b = left-none path l in omega (arith, a, b)
nodes-size rule ps k path (n ∷ ns) l kl =
    let p : ℕ = n.parent in
    let b : Bool = bracketed ps p in
    let path2 : List Open = opening ps k p ∷ path_left p path in
    let P : List ℕ = write_props (map (form_prop rule) n.props) in
    let W : List ℕ = write_nodes ps (suc k) path2 (map (form_node rule) ns) in
    let i : length W ≡ up b (brks (path_left p path)) + (nodes_size rule ns + 2 * brackets_in ps (parents ns)) = nodes-size rule ps (suc k) path2 ns (omega arith, left-low p path l) (omega arith) in
    let j : length P ≡ props_size rule n.props = props-size rule n.props in
    length-append (ends_text p path) (opened b (0x3b ∷ (P ++ W)))
    ∙ node-step b (length (ends_text p path)) (brks (path_left p path)) (brks path) (props_size rule n.props) (nodes_size rule ns) (brackets_in ps (parents ns)) (0x3b ∷ (P ++ W))
    (let a = length-append P W in omega (arith, a, i, j)) (ends-length p path)

tree-size : (t : Tree) → t.root + length t.nodes ≤ none → length (write_tree (form_tree t)) ≡ tree_size t
tree-size t l =
    let rule : ℕ = rule_of t in
    let ms : List Node = map (form_node rule) t.nodes in
    let e : parents ms ≡ parents t.nodes = parents-map (form_node rule) (λ n. refl) t.nodes in
    let i = nodes-size rule (parents ms) t.root [] t.nodes tt l in
    let b : brackets_in (parents ms) (parents t.nodes) ≡ brackets_of (parents t.nodes) = ap (λ (z : List ℕ). brackets_in z (parents t.nodes)) e in
    let a = length-append (write_nodes (parents ms) t.root [] ms) (0x29 ∷ []) in
    omega (arith, i, b, a)

trees-size : (ts : List Tree) → Few ts → length (write_trees (map form_tree ts)) ≡ trees_size ts
trees-size [] l = refl
trees-size (t ∷ ts) l = length-append (write_tree (form_tree t)) (write_trees (map form_tree ts)) ∙ ap₂ (λ (x y : ℕ). x + y) (tree-size t l.0) (trees-size ts l.1)

-- ---- of a record that can be written and read back, the limits aside

pub size-writing : (ts : List Tree) → Form ts → length (writing ts) ≡ trees_size ts
size-writing ts f = ap length (sym (walk-writes (map form_tree ts) (normal-form ts f))) ∙ trees-size ts f.few

-- of the mended record of a lenient reading
pub lenient-size : (t : List ℕ) (ts : List Tree) → read_lenient t ≡ accepted ts → length (writing (mended ts)) ≡ trees_size (mended ts)
lenient-size t ts h = size-writing (mended ts) (lenient-form t ts h)
