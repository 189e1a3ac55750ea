-- The first of the nodes with a parent, as the tables are searched and as the definition says; and node rows without links. Assumes nothing.
use Rattle.lists.proofs.Prelude.{ℕ, zero, suc, ◌+◌, ◌*◌, ◌≤◌, ◌<◌, ◌≡◌, refl, sym, ap, ◌∙◌, Bool, ◌&&◌, and-true, and-false, List, [], ◌∷◌, ◌++◌, arith, eqb, leb, le-leb, lt-leb, length, drop, get_or, drop-cons, drop-drop, get_or-drop, pick}
use Rattle.lists.proofs.Places.{drop-next}
use Rattle.lists.proofs.Tests.{eqb-sym}
use Rattle.tables.specs.Numbers.{none}
use Rattle.tables.specs.Record.{Node}
use Rattle.tables.specs.Rows.{first_child_from, parents}
use Rattle.tables.specs.Flat.{flat_nodes}
use Rattle.tables.specs.Columns.{node_stride, parent_at, child_at}
use Rattle.tables.specs.LocalsLinks.{first_under_or}
use Rattle.parser_tree.specs.LocalsFlat.{bare_rows}

-- ---- the first of the nodes with a parent

module _ (t : List ℕ) (p : ℕ) (empty : child_at t p ≡ none) where
  pub next-least : (lo k : ℕ) (ps : List ℕ) → lo ≤ k → ((j : ℕ) → j < length ps → parent_at t (k + j) ≡ get_or ps j 0) → first_child_from p lo k ps ≡ first_under_or t p k (length ps)
  unfolding first_under_or
  next-least lo k [] h f = sym empty
  next-least lo k (q ∷ qs) h f =
      let e : k + 0 ≡ k = omega arith in
      let eq : parent_at t k ≡ q = ap (parent_at t) (sym e) ∙ f 0 (omega arith) in
      let b : (eqb p q && leb lo k) ≡ eqb (parent_at t k) p =
      ap (λ (z : Bool). eqb p q && z) (le-leb lo k h) ∙ and-true (eqb p q) ∙ eqb-sym p q ∙ ap (λ (z : ℕ). eqb z p) (sym eq) in
      ap (λ (z : Bool). pick z k (first_child_from p lo (suc k) qs)) b
      ∙ ap (pick (eqb (parent_at t k) p) k)
      (next-least lo (suc k) qs (omega arith) (λ j l. let s : suc k + j ≡ k + suc j = omega arith in ap (parent_at t) s ∙ f (suc j) (omega arith)))

-- the numbers below lo are passed over
pub next-skip : (p d k : ℕ) (ps : List ℕ) → first_child_from p (k + d) k ps ≡ first_child_from p (k + d) (k + d) (drop d ps)
next-skip p zero k ps = let e : k ≡ k + 0 = omega arith in ap (λ (z : ℕ). first_child_from p (k + 0) z ps) e
next-skip p (suc d) k [] = refl
next-skip p (suc d) k (q ∷ qs) =
    let e : k + suc d ≡ suc k + d = omega arith in
    ap (λ (z : Bool). pick z k (first_child_from p (k + suc d) (suc k) qs)) (ap (λ (z : Bool). eqb p q && z) (lt-leb (k + suc d) k (omega arith)) ∙ and-false (eqb p q))
    ∙ ap (λ (z : ℕ). first_child_from p z (suc k) qs) e
    ∙ next-skip p d (suc k) qs
    ∙ ap (λ (z : ℕ). first_child_from p z z (drop d qs)) (sym e)

-- ---- cells of rows

pub cell : (t : List ℕ) (o c : ℕ) (d : List ℕ) → drop o t ≡ d → get_or t (o + c) 0 ≡ get_or d c 0
cell t o c d e = sym (get_or-drop o t c 0) ∙ ap (λ (z : List ℕ). get_or z c 0) e

pub six : (t : List ℕ) (o : ℕ) → o + 6 ≤ length t
    → drop o t ≡ get_or t o 0 ∷ get_or t (o + 1) 0 ∷ get_or t (o + 2) 0 ∷ get_or t (o + 3) 0 ∷ get_or t (o + 4) 0 ∷ get_or t (o + 5) 0 ∷ drop (o + 6) t
six t o h =
    drop-next t o (omega arith)
    ∙ ap (λ (z : List ℕ). get_or t o 0 ∷ z) (one 1 (omega arith)
    ∙ ap (λ (z : List ℕ). get_or t (o + 1) 0 ∷ z) (one 2 (omega arith)
    ∙ ap (λ (z : List ℕ). get_or t (o + 2) 0 ∷ z) (one 3 (omega arith)
    ∙ ap (λ (z : List ℕ). get_or t (o + 3) 0 ∷ z) (one 4 (omega arith)
    ∙ ap (λ (z : List ℕ). get_or t (o + 4) 0 ∷ z) (one 5 (omega arith))))))
  where
    one : (c : ℕ) → o + c < length t → drop (o + c) t ≡ get_or t (o + c) 0 ∷ drop (o + suc c) t
    one c l = let e : suc (o + c) ≡ o + suc c = omega arith in drop-cons t (o + c) 0 l ∙ ap (λ (z : ℕ). get_or t (o + c) 0 ∷ drop z t) e

-- the rows without links that stand from row k on
module _ (t : List ℕ) (rest : List ℕ) where
  abbrev pub Bare : ℕ → ℕ → List Node → Type 0
  Bare k f es = drop (k * node_stride) t ≡ flat_nodes (bare_rows f es) ++ rest

  pub bare-next : (k f : ℕ) (n : Node) (ns : List Node) → Bare k f (n ∷ ns) → Bare (suc k) (f + length n.props) ns
  bare-next k f n ns e = let s : suc k * node_stride ≡ k * node_stride + 6 = omega arith in ap (λ (z : ℕ). drop z t) s ∙ sym (drop-drop 6 (k * node_stride) t) ∙ ap (drop 6) e

  pub bare-parent : (k f j : ℕ) (es : List Node) → Bare k f es → j < length es → (parent_at t (k + j) ≡ get_or (parents es) j 0) × (child_at t (k + j) ≡ none)
  bare-parent k f j [] e h = absurd (omega arith)
  bare-parent k f zero (n ∷ ns) e h =
      let s : (k + 0) * node_stride ≡ k * node_stride + 0 = omega arith in
      let s1 : (k + 0) * node_stride + 1 ≡ k * node_stride + 1 = omega arith in
      (ap (λ (z : ℕ). get_or t z 0) s ∙ cell t (k * node_stride) 0 _ e, ap (λ (z : ℕ). get_or t z 0) s1 ∙ cell t (k * node_stride) 1 _ e)
  bare-parent k f (suc j) (n ∷ ns) e h =
      let s : k + suc j ≡ suc k + j = omega arith in
      let w = bare-parent (suc k) (f + length n.props) j ns (bare-next k f n ns e) (omega arith) in
      (ap (parent_at t) s ∙ w.0, ap (child_at t) s ∙ w.1)
