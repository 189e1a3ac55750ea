-- The mended record of a lenient reading, tree by tree from the slices: an empty root where a slice has no node. Assumes nothing.
use Rattle.lists.proofs.Prelude.{◌≡◌, refl, sym, ap, ap₂, ◌∙◌, subst, ℕ, zero, suc, ◌+◌, ◌<◌, max, arith, Bool, true, false, List, [], ◌∷◌, map, reverse, length, length-reverse, pick}
use Rattle.text_utf8.specs.Text.{Ink, whole, blank, utfs}
use Rattle.lexer.specs.Token.{Prop, Tok}
use Rattle.tables.specs.Numbers.{none}
use Rattle.tables.specs.Record.{Node, Tree, all_props}
use Rattle.tables.specs.Rows.{parents}
use Rattle.parser.specs.LocalsSlice.{slice_from, rest_from, first_slices}
use Rattle.parser.specs.Split.{slices, split_by_gametree}
use Rattle.parser.specs.Walk.{Walk, walk, halted, stopped, walked}
use Rattle.parser.specs.Read.{accepted, read_lenient, tokenize}
use Rattle.fit_rule.specs.Rule.{rule_of}
use Rattle.serialize.specs.Form.{writing}
use Rattle.serialize_laws.specs.Depth.{depth_of}
use Rattle.reader_laws.proofs.Accepted.{Reading, reading-is}
use Rattle.reader_laws.proofs.Grown.{Grew, nodes_of, in_order}
use Rattle.salvage_mend.specs.Mend.{root_game, gms_bad, prop_stays, respelled, mend_props, mend_node, mend_nodes, mend_tree, mended}
use Rattle.salvage_list.specs.Listed.{walk_nodes}
use Rattle.salvage_form.specs.Measured.{length_of}
use Rattle.salvage_form.specs.Rooted.{root_rule}
use Rattle.salvage_form.proofs.Measuring.{respelled-length}
use Rattle.salvage_form.proofs.Roots.{tree-rule}
use Rattle.salvage_depth.proofs.Opened.{parents-mended}
use Rattle.salvage_shape.specs.LocalsShape.{shape_depth, brackets_of}
use Rattle.salvage_shape.specs.LocalsSum.{props_length}
use Rattle.salvage_shape.proofs.Sums.{lengths-append}
use Rattle.salvage_size.specs.LocalsSize.{props_size, nodes_size, tree_size, trees_size, trees_depth}
use Rattle.salvage_size.specs.LocalsSlices.{tree_length, slice_nodes, slices_length, slices_depth}
use Rattle.salvage_size.proofs.Writing.{lenient-size}
use Rattle.salvage_size.proofs.Deepest.{lenient-depth}

-- ---- what mending leaves of properties

kept-size : (rule : ℕ) (bad : Bool) (ps : List Prop) → props_size rule (mend_props bad ps) ≡ props_length rule bad ps
kept-size rule bad [] = refl
kept-size rule bad (p ∷ ps) = go (prop_stays bad p) (kept-size rule bad ps)
  where
    go : (b : Bool) → props_size rule (mend_props bad ps) ≡ props_length rule bad ps
        → props_size rule (pick b (respelled p ∷ mend_props bad ps) (mend_props bad ps)) ≡ pick b (length_of rule p) 0 + props_length rule bad ps
    go true i = ap₂ (λ (x y : ℕ). x + y) (respelled-length rule p) i
    go false i = omega (arith, i)

rest-size : (rule : ℕ) (ns : List Node) → nodes_size rule (map (mend_node false) ns) ≡ length ns + props_length rule false (all_props ns)
rest-size rule [] = omega arith
rest-size rule (n ∷ ns) =
    let i = rest-size rule ns in
    let a = kept-size rule false n.props in
    let b = lengths-append rule false n.props (all_props ns) in
    omega (arith, i, a, b)

-- ---- one tree

bad-is : (n : Node) (ns : List Node) → gms_bad (root_game (n ∷ ns)) ≡ (root_rule n.props).bad
unfolding root_rule
bad-is n ns = refl

-- the root says the rule, and whether its GMs are removed
root-size : (rule : ℕ) (bad : Bool) (n : Node) (ns : List Node)
    → nodes_size rule (mend_nodes bad (n ∷ ns)) ≡ suc (length ns) + (props_length rule bad n.props + props_length rule false (all_props ns))
root-size rule bad n ns = let a = kept-size rule bad n.props in let b = rest-size rule ns in omega (arith, a, b)

pub tree-length : (t : Tree) (n : Node) (ns : List Node) → t.nodes ≡ n ∷ ns → tree_size (mend_tree t) ≡ tree_length (n ∷ ns)
tree-length t n ns e =
    let bad : Bool = gms_bad (root_game (n ∷ ns)) in
    let w : Bool = (root_rule n.props).bad in
    let r : ℕ = (root_rule n.props).rule in
    let a : nodes_size (rule_of (mend_tree t)) (mend_nodes (gms_bad (root_game t.nodes)) t.nodes) ≡ nodes_size r (mend_nodes w (n ∷ ns)) =
    ap₂ (λ (k : ℕ) (ms : List Node). nodes_size k (mend_nodes (gms_bad (root_game ms)) ms)) (tree-rule t n ns e) e
    ∙ ap (λ (b : Bool). nodes_size r (mend_nodes b (n ∷ ns))) (bad-is n ns) in
    let b : brackets_of (parents (mend_nodes (gms_bad (root_game t.nodes)) t.nodes)) ≡ brackets_of (parents (n ∷ ns)) =
    ap brackets_of (parents-mended (gms_bad (root_game t.nodes)) t.nodes ∙ ap parents e) in
    let c = root-size r w n ns in
    omega (arith, a, b, c)

tree-some : (t : Tree) (ns : List Node) → 0 < length ns → t.nodes ≡ ns → tree_size (mend_tree t) ≡ tree_length ns
tree-some t [] l e = absurd (omega arith)
tree-some t (n ∷ ns) l e = tree-length t n ns e

-- a tree and the nodes of the walk of its slice
record OneSlice (base : ℕ) (ns : List Node) (t : Tree) : Type 0 where
  size : tree_size (mend_tree t) ≡ tree_length ns
  depth : shape_depth base (parents t.nodes) ≡ shape_depth base (parents ns)
  many : length t.nodes ≡ max 1 (length ns)

one-some : (base : ℕ) (ns : List Node) (t : Tree) → 0 < length ns → t.nodes ≡ ns → OneSlice base ns t
one-some base ns t l e =
    let z = ap length e in
    record { size = tree-some t ns l e; depth = ap (λ (ms : List Node). shape_depth base (parents ms)) e; many = omega (arith, z, l) }

one-empty : (base : ℕ) (t : Tree) → t.nodes ≡ record { parent = none; props = [] } ∷ [] → OneSlice base [] t
one-empty base t e =
    record {
      size = tree-length t (record { parent = none; props = [] }) [] e;
      depth = ap (λ (ms : List Node). shape_depth base (parents ms)) e;
      many = ap length e;
    }

one-slice : (base : ℕ) (w : Walk) (t : Tree) → t.nodes ≡ in_order (nodes_of w) → OneSlice base (walk_nodes w) t
one-slice base (walk cur st g []) t e = one-empty base t e
one-slice base (walk cur st g (n ∷ ns)) t e = one-some base (reverse (n ∷ ns)) t (omega (arith, length-reverse (n ∷ ns))) e
one-slice base (halted []) t e = one-empty base t e
one-slice base (halted (n ∷ ns)) t e = one-some base (reverse (n ∷ ns)) t (omega (arith, length-reverse (n ∷ ns))) e
one-slice base (stopped r) t e = one-empty base t e

-- ---- all trees

record AllSlices (base : ℕ) (ss : List (List Tok)) (ts : List Tree) : Type 0 where
  size : trees_size (mended ts) ≡ slices_length base ss
  depth : trees_depth (mended ts) ≡ slices_depth base ss

grew-slices : (base k : ℕ) (us : List Tok) (ts : List Tree) → Grew true base k us ts → AllSlices base (first_slices k us) ts
unfolding first_slices
grew-slices base zero us [] g = record { size = refl; depth = refl }
grew-slices base zero us (t ∷ ts) g = absurd g
grew-slices base (suc k) us [] g = absurd g
grew-slices base (suc k) us (t ∷ ts) g =
    let s : List Tok = slice_from 0 us in
    let ns : List Node = slice_nodes base s in
    let one : OneSlice base ns t = one-slice base (walked true base (walk none [] false []) s) t g.0.nodes in
    let next : ℕ = base + max 1 (length ns) in
    let more : AllSlices next (first_slices k (rest_from 0 us)) ts =
    subst (λ (b : ℕ). AllSlices b (first_slices k (rest_from 0 us)) ts) (ap (λ (z : ℕ). base + z) one.many) (grew-slices (base + length t.nodes) k (rest_from 0 us) ts g.1) in
    let p : parents (mend_tree t).nodes ≡ parents t.nodes = parents-mended (gms_bad (root_game t.nodes)) t.nodes in
    let d : shape_depth t.root (parents (mend_tree t).nodes) ≡ shape_depth base (parents ns) = ap₂ shape_depth g.0.root p ∙ one.depth in
    record { size = ap₂ (λ (x y : ℕ). x + y) one.size more.size; depth = ap₂ max d more.depth }

-- ---- of a text

module _ (t : List ℕ) (ts : List Tree) (h : read_lenient t ≡ accepted ts) (k : Ink) (ss : List (List Tok)) (v : utfs (whole blank) 0 t ≡ whole k)
    (c : split_by_gametree true (tokenize k t).toks ≡ slices ss) where
  abbrev r : Reading true t ts
  r = reading-is true t ts h

  ink-is : r.ink ≡ k
  ink-is = let z : whole r.ink ≡ whole k = sym r.valid ∙ v in cc

  slices-are : first_slices r.k r.toks ≡ ss
  slices-are =
      let z : slices (first_slices r.k r.toks) ≡ slices ss = sym r.cuts ∙ ap (λ (i : Ink). split_by_gametree true (tokenize i t).toks) ink-is ∙ c in
      cc

  -- the length of the writing of the mended record, from the slices of the text
  pub slices-length : length (writing (mended ts)) ≡ slices_length 0 ss
  slices-length = lenient-size t ts h ∙ (grew-slices 0 r.k r.toks ts r.grew).size ∙ ap (slices_length 0) slices-are

  -- its depth
  pub slices-depth : depth_of (writing (mended ts)) ≡ slices_depth 0 ss
  slices-depth = lenient-depth t ts h ∙ (grew-slices 0 r.k r.toks ts r.grew).depth ∙ ap (slices_depth 0) slices-are
