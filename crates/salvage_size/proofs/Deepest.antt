-- How deep a writing is: that of its deepest tree, by the nodes' parents. Each parent is on the spine, since it is open when its child is written. Assumes nothing.
use Rattle.lists.proofs.Prelude.{◌≡◌, refl, sym, ◌∙◌, subst, inl, inr, ℕ, suc, ◌+◌, max, arith, List, [], ◌∷◌, length, eq-eqb, ne_eqb}
use Rattle.tables.specs.Numbers.{none}
use Rattle.tables.specs.Record.{Node, Tree}
use Rattle.tables.specs.Rows.{parents}
use Rattle.parser.specs.Read.{accepted, read_lenient}
use Rattle.serialize.specs.Form.{writing}
use Rattle.serialize.specs.LocalsWrite.{Open, path_left}
use Rattle.serialize.proofs.Branches.{opening, On, Good}
use Rattle.serialize_laws.specs.Depth.{depth_of}
use Rattle.serialize_laws.proofs.ReadBack.{Form}
use Rattle.serialize_laws.proofs.Regrow.{SoundNodes, SoundTrees}
use Rattle.serialize_laws.proofs.Resplit.{Few}
use Rattle.salvage_mend.specs.Mend.{mended}
use Rattle.salvage_laws.proofs.Theorem.{lenient-form}
use Rattle.salvage_depth.proofs.Opened.{highest, highest_of, writing-depth}
use Rattle.salvage_shape.specs.LocalsShape.{Fork, closed_into, shut_from, shut_to, leaf, Heads, Meets, shape_depth}
use Rattle.salvage_shape.proofs.Depths.{Match, match-same, match-shut, match-push, shape-highest}
use Rattle.salvage_shape.proofs.Theorem.{parents-many}
use Rattle.salvage_size.specs.LocalsSize.{trees_depth}

-- ---- parents are on the spine

module _ (ps : List ℕ) where
  heads-from : (q : ℕ) (path : List Open) (r : Fork) (rs : List Fork) → Match ps path (r ∷ rs) → On q path → Heads q (shut_from q r rs)
  heads-from q [] r rs m o = absurd o
  heads-from q (x ∷ xs) r [] m o = absurd m
  heads-from q (x ∷ xs) r (s ∷ rs) m (inl e) = rw (eq-eqb r.num q (sym m.0 ∙ e)) (sym m.0 ∙ e)
  heads-from q (x ∷ xs) r (s ∷ rs) m (inr o) =
      rw (ne_eqb r.num q (λ z. o.0 (m.0 ∙ z))) (heads-from q xs (closed_into r s) rs (match-same ps xs r s rs m.2) o.1)

  heads-on : (q : ℕ) (path : List Open) (xs : List Fork) → Match ps path xs → On q path → Heads q (shut_to q xs)
  heads-on q path [] m o = absurd m
  heads-on q path (r ∷ rs) m o = heads-from q path r rs m o

  good-meets : (ns : List Node) (k : ℕ) (path : List Open) (xs : List Fork) → Match ps path xs → Good ps k path ns → Meets k xs (parents ns)
  good-meets [] k path xs m g = tt
  good-meets (n ∷ ns) k path xs m g =
      let q : ℕ = n.parent in
      let h : Heads q (shut_to q xs) = heads-on q path xs m g.0 in
      let m2 = match-push ps k q (path_left q path) (shut_to q xs) h (match-shut ps q path xs m) in
      (h, good-meets ns (suc k) (opening ps k n.parent ∷ path_left n.parent path) (leaf k ∷ shut_to n.parent xs) m2 g.1)

sound-meets : (r k : ℕ) (ns : List Node) → SoundNodes r k ns → Meets r (leaf none ∷ []) (parents ns)
sound-meets r k [] s = absurd s
sound-meets r k (n ∷ ns) s =
    let ps : List ℕ = none ∷ parents ns in
    subst (λ (p : ℕ). Meets r (leaf none ∷ []) (p ∷ parents ns)) (sym s.0)
    (refl, good-meets ps ns (suc r) (opening ps r none ∷ []) (leaf r ∷ leaf none ∷ []) (refl, refl, tt) s.1.good)

-- ---- the deepest tree

highest-depth : (base : ℕ) (ts : List Tree) → SoundTrees base ts → Few ts → highest_of ts ≡ trees_depth ts
highest-depth base [] s l = refl
highest-depth base (t ∷ ts) s l =
    let ps : List ℕ = parents t.nodes in
    let m : Meets t.root (leaf none ∷ []) ps = subst (λ (b : ℕ). Meets b (leaf none ∷ []) ps) (sym s.0) (sound-meets base t.game t.nodes s.1) in
    let b = parents-many t.nodes in
    let e : shape_depth t.root ps ≡ max 1 (highest ps t.root [] ps) = shape-highest t.root ps (omega (arith, b, l.0)) m in
    let i = highest-depth (base + length t.nodes) ts s.2 l.1 in
    joins (highest ps t.root [] ps) (highest_of ts) (shape_depth t.root ps) (trees_depth ts) e i
  where
    joins : (h o d x : ℕ) → d ≡ max 1 h → o ≡ x → max 1 (max h o) ≡ max d x
    joins h o d x e i = omega (arith, e, i)

-- of a record that can be written and read back, the limits aside
pub depth-writing : (ts : List Tree) → Form ts → depth_of (writing ts) ≡ trees_depth ts
depth-writing ts f = writing-depth ts f ∙ highest-depth 0 ts f.sound f.few

-- of the mended record of a lenient reading
pub lenient-depth : (t : List ℕ) (ts : List Tree) → read_lenient t ≡ accepted ts → depth_of (writing (mended ts)) ≡ trees_depth (mended ts)
lenient-depth t ts h = depth-writing (mended ts) (lenient-form t ts h)
