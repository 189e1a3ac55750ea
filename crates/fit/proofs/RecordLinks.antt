-- Lent tables that have a record's rows: first children, next siblings and depths fit. Assumes nothing.
use Rattle.lists.proofs.Prelude.{ℕ, zero, suc, ◌+◌, ◌-◌, ◌≤◌, ◌<◌, Bool, true, ◌&&◌, and-true, and-false, List, [], ◌∷◌, head-eq_of_cons-eq, tail-eq_of_cons-eq, ◌≡◌, refl, sym, ap, ap₂, ◌∙◌, subst, arith, eqb, leb, length, get_or, eq-eqb, le-leb, lt-leb, pick}
use Rattle.tables.specs.Numbers.{none}
use Rattle.tables.specs.Record.{Node}
use Rattle.tables.specs.Rows.{NodeRow, first_child_from, parents, depths, node_rows}
use Rattle.tables.specs.Columns.{parent_at, child_at, sibling_at, depth_at}
use Rattle.tables.specs.Each.{each, tabulate}
use Rattle.fit_nodes.specs.Nodes.{first_under, next_sibling, parent_right, child_right, sibling_right, depth_right}
use Rattle.fit.specs.Record.{node_row}
use Rattle.lists.proofs.Tests.{same_or, eqb-sym}
use Rattle.tables.proofs.Each.{each_all}
use Rattle.tables.proofs.Lengths.{parents-length}
use Rattle.fit.proofs.RecordDepths.{depths-right}

-- the table has these parents from k on
abbrev pub Tells : List ℕ → ℕ → List ℕ → Type 0
Tells nd k [] = Unit {0}
Tells nd k (q ∷ qs) = (parent_at nd k ≡ q) × Tells nd (suc k) qs

pub tells_at : (nd : List ℕ) (k : ℕ) (qs : List ℕ) → Tells nd k qs → (j : ℕ) → j < length qs → parent_at nd (k + j) ≡ get_or qs j 0
tells_at nd k [] h j l = absurd (omega arith)
tells_at nd k (q ∷ qs) h zero l = let e : k + 0 ≡ k = omega arith in ap (parent_at nd) e ∙ h.0
tells_at nd k (q ∷ qs) h (suc j) l = let e : k + suc j ≡ suc k + j = omega arith in ap (parent_at nd) e ∙ tells_at nd (suc k) qs h.1 j (omega arith)

-- ---- the first node under p, over the table and over the parents

module _ (nd : List ℕ) (p lo : ℕ) where
  pub next-at : (k : ℕ) (qs : List ℕ) → lo ≤ k → Tells nd k qs → first_child_from p lo k qs ≡ first_under nd p k (length qs)
  unfolding first_under
  next-at k [] l h = refl
  next-at k (q ∷ qs) l h =
      let e : (eqb p q && leb lo k) ≡ eqb (parent_at nd k) p = rw (le-leb lo k l, h.0) (and-true (eqb p q) ∙ eqb-sym p q) in
      ap₂ (λ (b : Bool) (r : ℕ). pick b k r) e (next-at (suc k) qs (omega arith) h.1)

  pub next-from : (j : ℕ) (qs : List ℕ) → j ≤ lo → lo ≤ j + length qs → Tells nd j qs → first_child_from p lo j qs ≡ first_under nd p lo (j + length qs - lo)
  unfolding first_under
  next-from j [] a b h = let e : j + 0 - lo ≡ 0 = omega arith in ap (first_under nd p lo) (sym e)
  next-from j (q ∷ qs) a b h =
      same_or j lo
      (λ z.
      let e : length (q ∷ qs) ≡ j + suc (length qs) - lo = omega arith in
      next-at j (q ∷ qs) (omega arith) h ∙ ap₂ (λ (x y : ℕ). first_under nd p x y) z e)
      (λ z.
      let e : suc j + length qs - lo ≡ j + suc (length qs) - lo = omega arith in
      rw (lt-leb lo j (omega arith), and-false (eqb p q)) (next-from (suc j) qs (omega arith) (omega arith) h.1 ∙ ap (first_under nd p lo) e))

-- ---- the links and depths in the rows

-- row i has the links and the depth that the parents say
abbrev pub Linked : List ℕ → List ℕ → ℕ → Type 0
Linked nd qs i =
    (child_at nd i ≡ first_child_from i 0 0 qs) × (sibling_at nd i ≡ pick (eqb (parent_at nd i) none) none (first_child_from (parent_at nd i) (suc i) 0 qs)) × (depth_at nd i ≡ get_or (depths qs) i 0)

links : (nd qs : List ℕ) (f b : ℕ) (ns : List Node) → tabulate (node_row nd) b (length ns) ≡ node_rows qs b f ns
    → Tells nd b (parents ns) × ((i : ℕ) → b ≤ i → i < b + length ns → Linked nd qs i)
unfolding tabulate
links nd qs f b [] e = (tt, (λ i a c. absurd (omega arith)))
links nd qs f b (n ∷ ns) e =
    let row = head-eq_of_cons-eq e in
    let p : parent_at nd b ≡ n.parent = ap (λ (z : NodeRow). z.parent) row in
    let c : child_at nd b ≡ first_child_from b 0 0 qs = ap (λ (z : NodeRow). z.child) row in
    let s : sibling_at nd b ≡ pick (eqb (parent_at nd b) none) none (first_child_from (parent_at nd b) (suc b) 0 qs) =
    ap (λ (z : NodeRow). z.sibling) row ∙ ap (λ (z : ℕ). pick (eqb z none) none (first_child_from z (suc b) 0 qs)) (sym p) in
    let d : depth_at nd b ≡ get_or (depths qs) b 0 = ap (λ (z : NodeRow). z.depth) row in
    let r = links nd qs (f + length n.props) (suc b) ns (tail-eq_of_cons-eq e) in
    ((p, r.0), (λ i a o. same_or i b (λ w. subst (Linked nd qs) (sym w) (c, s, d)) (λ w. r.1 i (omega arith) (omega arith))))

module _ (nd : List ℕ) (ns : List Node) (rows : tabulate (node_row nd) 0 (length ns) ≡ node_rows (parents ns) 0 0 ns) where
  all-links : Tells nd 0 (parents ns) × ((i : ℕ) → 0 ≤ i → i < 0 + length ns → Linked nd (parents ns) i)
  all-links = links nd (parents ns) 0 0 ns rows

  pub children-fit : each (length ns) (child_right nd (length ns)) ≡ true
  children-fit =
      each_all (child_right nd (length ns)) (length ns)
      (λ i l. eq-eqb (child_at nd i) (first_under nd i 0 (length ns))
      ((all-links.1 i (omega arith) (omega arith)).0 ∙ next-at nd i 0 0 (parents ns) (omega arith) all-links.0 ∙ ap (first_under nd i 0) (parents-length ns)))

  pub siblings-fit : each (length ns) (sibling_right nd (length ns)) ≡ true
  siblings-fit =
      each_all (sibling_right nd (length ns)) (length ns)
      (λ i l.
      let n = parents-length ns in
      let e : 0 + length (parents ns) - suc i ≡ length ns - suc i = omega arith in
      eq-eqb (sibling_at nd i) (next_sibling nd (length ns) i)
      ((all-links.1 i (omega arith) (omega arith)).1
      ∙ ap (λ (z : ℕ). pick (eqb (parent_at nd i) none) none z)
      (next-from nd (parent_at nd i) (suc i) 0 (parents ns) (omega arith) (omega arith) all-links.0 ∙ ap (first_under nd (parent_at nd i) (suc i)) e)))

  pub depths-fit : each (length ns) (parent_right nd) ≡ true → length ns ≤ none → each (length ns) (depth_right nd) ≡ true
  depths-fit rule few =
      depths-right {nd = nd} (record { most = few; rule = rule }) (parents ns) (parents-length ns)
      (λ i l. let z : 0 + i ≡ i = omega arith in ap (parent_at nd) (sym z) ∙ tells_at nd 0 (parents ns) all-links.0 i (omega (arith, parents-length ns)))
      (λ i l. (all-links.1 i (omega arith) (omega arith)).2)
