-- The rows of a record denote that record, over a text that its spans denote. Assumes nothing.
use Rattle.lists.proofs.Prelude.{ℕ, suc, ◌+◌, ◌-◌, List, [], ◌∷◌, ◌++◌, map, append_assoc, append-nil, ◌≡◌, refl, sym, ap, ap₂, ◌∙◌, arith, length, take, drop, length-append, take_at, drop_at}
use Rattle.lists.proofs.All.{all_append}
use Rattle.lists.specs.All.{All}
use Rattle.lexer_laws.proofs.Contents.{Stands, Denotes}
use Rattle.lexer.specs.Token.{Val, Prop}
use Rattle.tables.specs.Record.{Node, Tree, all_nodes, all_props, all_vals}
use Rattle.tables.specs.Rows.{tables, parents, tree_rows, node_rows, prop_rows, val_rows}
use Rattle.fit.specs.Record.{val_of, prop_of, node_of, trees_of, record_of}

-- each tree's root is the number of its first node
abbrev pub Rooted : ℕ → List Tree → Type 0
Rooted b [] = Unit {0}
Rooted b (t ∷ ts) = (t.root ≡ b) × Rooted (b + length t.nodes) ts

part_at : {A : Type 0} (pre x y : List A) (f c : ℕ) → length pre ≡ f → length x ≡ c → take c (drop f (pre ++ (x ++ y))) ≡ x
part_at pre x y f c e k = ap (take c) (drop_at pre (x ++ y) f e) ∙ take_at x y c k

module _ (t : List ℕ) where
  vals-back : (vs : List Val) → All (Stands t) vs → map (val_of t) (val_rows vs) ≡ vs
  vals-back [] h = refl
  vals-back (v ∷ vs) h =
      ap₂ (λ (r : List ℕ) (z : List Val). record { from = v.from; to = v.to; raw = r } ∷ z) (sym h.0) (vals-back vs h.1)

  all-stand : (ps : List Prop) → All (Denotes t) ps → All (Stands t) (all_vals ps)
  all-stand [] h = tt
  all-stand (p ∷ ps) h = all_append (Stands t) p.vals (all_vals ps) h.0.1 (all-stand ps h.1)

  props-back : (pre : List Val) (f : ℕ) (ps : List Prop) → length pre ≡ f → All (Denotes t) ps → map (prop_of t (pre ++ all_vals ps)) (prop_rows f ps) ≡ ps
  props-back pre f [] e h = refl
  props-back pre f (p ∷ ps) e h =
      ap₂ (λ (x : Prop) (z : List Prop). x ∷ z)
      (ap₂ (λ (w : List ℕ) (vs : List Val). record { from = p.from; to = p.to; name = w; vals = vs }) (sym h.0.0) (part_at pre p.vals (all_vals ps) f (length p.vals) e refl))
      (ap (λ (z : List Val). map (prop_of t z) (prop_rows (f + length p.vals) ps)) (sym (append_assoc pre p.vals (all_vals ps)))
      ∙ props-back (pre ++ p.vals) (f + length p.vals) ps (length-append pre p.vals ∙ ap (λ (z : ℕ). z + length p.vals) e) h.1)

nodes-back : (pre : List Prop) (qs : List ℕ) (k f : ℕ) (ns : List Node) → length pre ≡ f → map (node_of (pre ++ all_props ns)) (node_rows qs k f ns) ≡ ns
nodes-back pre qs k f [] e = refl
nodes-back pre qs k f (n ∷ ns) e =
    ap₂ (λ (x : Node) (z : List Node). x ∷ z)
    (ap (λ (ps : List Prop). record { parent = n.parent; props = ps }) (part_at pre n.props (all_props ns) f (length n.props) e refl))
    (ap (λ (z : List Prop). map (node_of z) (node_rows qs (suc k) (f + length n.props) ns)) (sym (append_assoc pre n.props (all_props ns)))
    ∙ nodes-back (pre ++ n.props) qs (suc k) (f + length n.props) ns (length-append pre n.props ∙ ap (λ (z : ℕ). z + length n.props) e))

trees-back : (pre : List Node) (b : ℕ) (ts : List Tree) → length pre ≡ b → Rooted b ts → trees_of (pre ++ all_nodes ts) (tree_rows ts) ≡ ts
trees-back pre b [] e h = refl
trees-back pre b (t ∷ []) e h =
    ap (λ (ns : List Node). record { root = t.root; game = t.game; nodes = ns } ∷ []) (drop_at pre (t.nodes ++ []) t.root (e ∙ sym h.0) ∙ append-nil t.nodes)
trees-back pre b (t ∷ u ∷ ts) e h =
    let l : length t.nodes ≡ u.root - t.root = omega (arith, h.0, h.1.0) in
    ap₂ (λ (ns : List Node) (z : List Tree). record { root = t.root; game = t.game; nodes = ns } ∷ z)
    (part_at pre t.nodes (all_nodes (u ∷ ts)) t.root (u.root - t.root) (e ∙ sym h.0) l)
    (ap (λ (z : List Node). trees_of z (tree_rows (u ∷ ts))) (sym (append_assoc pre t.nodes (all_nodes (u ∷ ts))))
    ∙ trees-back (pre ++ t.nodes) (b + length t.nodes) (u ∷ ts) (length-append pre t.nodes ∙ ap (λ (z : ℕ). z + length t.nodes) e) h.1)

pub record-of-tables : (t : List ℕ) (ts : List Tree) → All (Denotes t) (all_props (all_nodes ts)) → Rooted 0 ts → record_of t (tables ts) ≡ ts
record-of-tables t ts h r =
    let ns : List Node = all_nodes ts in
    let ps : List Prop = all_props (all_nodes ts) in
    let v : map (val_of t) (val_rows (all_vals ps)) ≡ all_vals ps = vals-back t (all_vals ps) (all-stand t ps h) in
    let p : map (prop_of t (map (val_of t) (val_rows (all_vals ps)))) (prop_rows 0 ps) ≡ ps =
    ap (λ (z : List Val). map (prop_of t z) (prop_rows 0 ps)) v ∙ props-back t [] 0 ps refl h in
    let n : map (node_of (map (prop_of t (map (val_of t) (val_rows (all_vals ps)))) (prop_rows 0 ps))) (node_rows (parents ns) 0 0 ns) ≡ ns =
    ap (λ (z : List Prop). map (node_of z) (node_rows (parents ns) 0 0 ns)) p ∙ nodes-back [] (parents ns) 0 0 ns refl in
    ap (λ (z : List Node). trees_of z (tree_rows ts)) n ∙ trees-back [] 0 ts refl r
