-- One tree: the walk over its nodes gives its writing by recursion, and trees alike in parents and properties' texts have one writing. Assumes nothing.
use Rattle.lists.proofs.Prelude.{ℕ, suc, ◌+◌, ◌≤◌, ◌<◌, Bool, true, false, List, [], ◌∷◌, ◌++◌, append-nil, ◌≡◌, refl, sym, ap, ap₂, ◌∙◌, arith, leb, eqb, length, leb-false, eq-eqb, ne_eqb, pick}
use Rattle.tables.specs.Numbers.{none}
use Rattle.tables.specs.Record.{Node, Tree}
use Rattle.tables.specs.Rows.{parents}
use Rattle.serialize.specs.Branch.{Nodes, stand, Hung, under, hung, write_props, several, enclosed, nodes_text, tree_text}
use Rattle.serialize.specs.LocalsWrite.{bracketed, times, opened, shuts, write_nodes, write_tree}
use Rattle.serialize.proofs.Branches.{opening, Good, size_none, size-under, several-under, walk-rest}

-- a root and the nodes after it, each under an open node
module _ (r game : ℕ) (n : Node) (ns : List Node) (root : n.parent ≡ none) (single : bracketed (none ∷ parents ns) none ≡ false)
    (good : Good (none ∷ parents ns) (suc r) (opening (none ∷ parents ns) r none ∷ []) ns) (few : suc r + length ns ≤ none) where
  abbrev ps : List ℕ
  ps = none ∷ parents ns

  abbrev hs : List Hung
  hs = hung (suc r) ns

  abbrev w : List ℕ
  w = write_props n.props

  abbrev tree : Tree
  tree = record { root = r; game = game; nodes = n ∷ ns }

  abbrev below : List ℕ
  below = nodes_text (several (under r hs)) (under r hs)

  none-later : times none (parents ns) ≡ 0
  none-later = let e : times none ps ≡ suc (times none (parents ns)) = refl in omega (arith, leb-false 2 (times none ps) single)

  counted : (q : ℕ) → q < none → times q ps ≡ times q (parents ns)
  counted q l = rw (ne_eqb none q (λ e. omega arith))

  walked : write_nodes ps (suc r) (opening ps r none ∷ []) ns ≡ below
  walked =
      walk-rest ps (suc r) (opening ps r none ∷ []) ns good (omega arith, tt) few (λ q a c. counted q c)
      ∙ ap₂ (λ (c d : Bool). nodes_text c (under r hs) ++ shuts d []) (ap (leb 2) (counted r (omega arith)) ∙ sym (several-under r (suc r) ns)) single
      ∙ append-nil below

  root-text : tree_text tree ≡ enclosed true (0x3b ∷ (w ++ below))
  root-text =
      rw (eq-eqb n.parent none root)
      (ap (λ (z : Nodes). enclosed true ((0x3b ∷ (w ++ below)) ++ nodes_text false z)) (size_none (under none hs) (size-under none (suc r) ns ∙ none-later))
      ∙ ap (enclosed true) (append-nil (0x3b ∷ (w ++ below))))

  pub tree-text : write_tree tree ≡ tree_text tree
  tree-text =
      ap (λ (z : ℕ). enclosed true (opened (bracketed (z ∷ parents ns) z) (0x3b ∷ (w ++ write_nodes (z ∷ parents ns) (suc r) (opening (z ∷ parents ns) r z ∷ []) ns)))) root
      ∙ ap (λ (c : Bool). enclosed true (opened c (0x3b ∷ (w ++ write_nodes ps (suc r) (opening ps r none ∷ []) ns)))) single
      ∙ ap (λ (z : List ℕ). enclosed true (0x3b ∷ (w ++ z))) walked
      ∙ sym root-text

-- nodes alike in their parents and in their properties' texts, one by one
abbrev pub Alike : List Node → List Node → Type 0
Alike [] [] = Unit {0}
Alike [] (m ∷ ms) = ⊥
Alike (n ∷ ns) [] = ⊥
Alike (n ∷ ns) (m ∷ ms) = (n.parent ≡ m.parent) × (write_props n.props ≡ write_props m.props) × Alike ns ms

alike-parents : (ns ms : List Node) → Alike ns ms → parents ns ≡ parents ms
alike-parents [] [] a = refl
alike-parents [] (m ∷ ms) a = absurd a
alike-parents (n ∷ ns) [] a = absurd a
alike-parents (n ∷ ns) (m ∷ ms) a = ap₂ (λ (x : ℕ) (y : List ℕ). x ∷ y) a.0 (alike-parents ns ms a.2)

alike-under : (b : Bool) (q k : ℕ) (ns ms : List Node) → Alike ns ms → nodes_text b (under q (hung k ns)) ≡ nodes_text b (under q (hung k ms))
alike-under b q k [] [] a = refl
alike-under b q k [] (m ∷ ms) a = absurd a
alike-under b q k (n ∷ ns) [] a = absurd a
alike-under b q k (n ∷ ns) (m ∷ ms) a =
    go (eqb n.parent q) (alike-under b q (suc k) ns ms a.2) (alike-under (several (under k (hung (suc k) ms))) k (suc k) ns ms a.2)
    ∙ ap (λ (z : ℕ). nodes_text b (pick (eqb z q) (stand m.props (under k (hung (suc k) ms)) (under q (hung (suc k) ms))) (under q (hung (suc k) ms)))) a.0
  where
    many : several (under k (hung (suc k) ns)) ≡ several (under k (hung (suc k) ms))
    many = several-under k (suc k) ns ∙ ap (λ (z : List ℕ). leb 2 (times k z)) (alike-parents ns ms a.2) ∙ sym (several-under k (suc k) ms)

    go : (c : Bool) → nodes_text b (under q (hung (suc k) ns)) ≡ nodes_text b (under q (hung (suc k) ms))
        → nodes_text (several (under k (hung (suc k) ms))) (under k (hung (suc k) ns)) ≡ nodes_text (several (under k (hung (suc k) ms))) (under k (hung (suc k) ms))
        → nodes_text b (pick c (stand n.props (under k (hung (suc k) ns)) (under q (hung (suc k) ns))) (under q (hung (suc k) ns)))
        ≡ nodes_text b (pick c (stand m.props (under k (hung (suc k) ms)) (under q (hung (suc k) ms))) (under q (hung (suc k) ms)))
    go true e f =
        ap₂ (λ (x y : List ℕ). enclosed b (0x3b ∷ x) ++ y)
        (ap₂ (λ (x y : List ℕ). x ++ y) a.1 (ap (λ (c : Bool). nodes_text c (under k (hung (suc k) ns))) many ∙ f)) e
    go false e f = e

-- so have trees with one root
pub alike-tree : (r k l : ℕ) (ns ms : List Node) → Alike ns ms → tree_text (record { root = r; game = k; nodes = ns }) ≡ tree_text (record { root = r; game = l; nodes = ms })
alike-tree r k l ns ms a = ap (enclosed true) (alike-under false none r ns ms a)
