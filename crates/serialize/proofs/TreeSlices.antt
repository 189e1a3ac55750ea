-- The trees of tables that fit: each root begins a stretch of nodes that ends at the next root, and its tree's rule is theirs. Assumes nothing.
use Rattle.lists.proofs.Prelude.{ℕ, zero, suc, ◌+◌, ◌≤◌, ◌<◌, ◌-◌, Bool, List, ◌≡◌, ap, ◌∙◌, subst, arith, eq-eqb, ne_eqb, eqb-true}
use Rattle.tables.specs.Numbers.{none}
use Rattle.tables.specs.declared.Counts.{Counts}
use Rattle.tables.proofs.Cases.{below_or}
use Rattle.fit.proofs.Clauses.{Clauses}
use Rattle.tables.proofs.Each.{each_at}
use Rattle.fit.proofs.RecordRows.{ruled, first-root}
use Rattle.fit.proofs.RootRows.{root_in, root-rises, orphan-root}
use Rattle.tables.specs.Columns.{root_at, parent_at, child_at, sibling_at}
use Rattle.fit_nodes.specs.Nodes.{first_under, next_sibling, child_right, sibling_right}
use Rattle.serialize.specs.LocalsWalk.{roots_below, tree_rule, node_rule}
use Rattle.serialize.proofs.TreeWalk.{Linking, Stretch}

module _ {nd : List ℕ} {n a b : ℕ} (x : Stretch nd n a b) where
  below-stretch : (d : ℕ) → a + suc d ≤ b → roots_below nd (a + suc d) ≡ suc (roots_below nd a)
  unfolding roots_below
  below-stretch zero h = let e : a + 1 ≡ suc a = omega arith in rw (e, eq-eqb (parent_at nd a) none x.root)
  below-stretch (suc d) h =
      let e : a + suc (suc d) ≡ suc (a + suc d) = omega arith in
      rw (e, ne_eqb (parent_at nd (a + suc d)) none (x.others (a + suc d) (omega arith) (omega arith))) (below-stretch d (omega arith))

  pub below_in : (k : ℕ) → a ≤ k → k < b → roots_below nd (suc k) ≡ suc (roots_below nd a)
  below_in k l u = let e : a + suc (k - a) ≡ suc k = omega arith in subst (λ (z : ℕ). roots_below nd z ≡ suc (roots_below nd a)) e (below-stretch (k - a) (omega arith))

module _ {t : List ℕ} {c : Counts} {tr nd pr vl : List ℕ} (fit : Clauses t c tr nd pr vl) where
  abbrev m : ℕ
  m = c.trees

  abbrev n : ℕ
  n = c.nodes

  abbrev R : ℕ → ℕ
  R = root_at tr

  pub linking : Linking nd n
  linking =
      record {
        ruled = ruled fit;
        child = λ k l. eqb-true (child_at nd k) (first_under nd k 0 n) (each_at (child_right nd n) n k fit.children l);
        sibling = λ k l. eqb-true (sibling_at nd k) (next_sibling nd n k) (each_at (sibling_right nd n) n k fit.siblings l);
      }

  roots-far : (d r : ℕ) → r + d < m → R r ≤ R (r + d)
  roots-far zero r l = let e : r + 0 ≡ r = omega arith in rw e (omega arith)
  roots-far (suc d) r l =
      let e : r + suc d ≡ suc (r + d) = omega arith in
      let f = root-rises tr nd m n fit.roots (r + d) (omega arith) in
      let g = roots-far d r (omega arith) in
      rw e (omega arith)

  roots-up : (r s : ℕ) → r ≤ s → s < m → R r ≤ R s
  roots-up r s h l = let e : r + (s - r) ≡ s = omega arith in subst (λ (z : ℕ). R r ≤ R z) e (roots-far (s - r) r (omega arith))

  module _ (i : ℕ) where
    -- a tree that another follows
    pub stretch-next : suc i < m → Stretch nd n (R i) (R (suc i))
    stretch-next l =
        record {
          root = (root_in tr nd m n fit.roots i (omega arith)).1;
          some = root-rises tr nd m n fit.roots i l;
          inside = omega (arith, (root_in tr nd m n fit.roots (suc i) l).0);
          others = λ k u v e.
              let w = (root_in tr nd m n fit.roots (suc i) l).0 in
              let o = orphan-root tr nd m n fit.roots k (omega arith) e in
              let o1 = o.1 in
              let o2 = o.2 in
              below_or i o.0
              (λ z. omega (arith, roots-up (suc i) o.0 (omega arith) o1))
              (λ z. omega (arith, roots-up o.0 i z (omega arith)));
          next = λ u. (root_in tr nd m n fit.roots (suc i) l).1;
        }

    -- the last tree
    pub stretch-last : suc i ≡ m → Stretch nd n (R i) n
    stretch-last l =
        record {
          root = (root_in tr nd m n fit.roots i (omega arith)).1;
          some = (root_in tr nd m n fit.roots i (omega arith)).0;
          inside = omega arith;
          others = λ k u v e.
              let o = orphan-root tr nd m n fit.roots k v e in
              let o1 = o.1 in
              let o2 = o.2 in
              omega (arith, roots-up o.0 i (omega arith) (omega arith));
          next = λ u. absurd (omega arith);
        }

  pub below_root : (i : ℕ) → i < m → roots_below nd (R i) ≡ i
  unfolding roots_below
  below_root zero l = ap (roots_below nd) (first-root fit l)
  below_root (suc i) l =
      let x = stretch-next i l in
      let s = x.some in
      let e : suc (R (suc i) - 1) ≡ R (suc i) = omega arith in
      subst (λ (z : ℕ). roots_below nd z ≡ suc i) e (below_in x (R (suc i) - 1) (omega arith) (omega arith) ∙ ap suc (below_root i (omega arith)))

  pub rule-here : (mends : Bool) {b : ℕ} (i : ℕ) → i < m → Stretch nd n (R i) b → (k : ℕ) → R i ≤ k → k < b → node_rule mends t tr nd pr vl k ≡ tree_rule mends t tr nd pr vl i
  rule-here mends i l x k u v =
      let w : roots_below nd (suc k) ≡ suc i = below_in x k u v ∙ ap suc (below_root i l) in
      let e : roots_below nd (suc k) - 1 ≡ i = omega arith in
      ap (tree_rule mends t tr nd pr vl) e
