-- The loop that finds the tree of a property. Assumes nothing.
use Rattle.lists.proofs.Prelude.{ℕ, suc, ◌+◌, ◌-◌, ◌≤◌, ◌<◌, List, ◌≡◌, ap, ◌∙◌, subst, arith, add-one, lt-ltb, le-ltb}
use Rattle.tables.specs.Columns.{root_at, first_prop_at}
use Rattle.ask.specs.Locals.{tree_from}

module _ (tr nd : List ℕ) (p : ℕ) where
  -- of tree r of m, and those behind it
  abbrev pub tree_on : (m r : ℕ) → ℕ
  tree_on m r = tree_from tr nd p r (m - 1 - r)

  module _ (m r : ℕ) where
    -- the first property of the next tree's root
    next-first : {root f : ℕ} → root ≡ root_at tr (r + 1) → f ≡ first_prop_at nd root → f ≡ first_prop_at nd (root_at tr (suc r))
    next-first x y = y ∙ ap (first_prop_at nd) x ∙ ap (λ (z : ℕ). first_prop_at nd (root_at tr z)) (add-one r)

    pub tree-here : r + 1 < m → {root f : ℕ} → root ≡ root_at tr (r + 1) → f ≡ first_prop_at nd root → p < f → r ≡ tree_on m r
    unfolding tree_from
    tree-here h {f = f} x y b =
        let e : m - 1 - r ≡ suc (m - 1 - suc r) = omega arith in
        let d : p < first_prop_at nd (root_at tr (suc r)) = subst (λ (z : ℕ). p < z) (next-first x y) b in
        rw (e, lt-ltb p (first_prop_at nd (root_at tr (suc r))) d)

    pub tree-on : r + 1 < m → {root f : ℕ} → root ≡ root_at tr (r + 1) → f ≡ first_prop_at nd root → f ≤ p → tree_on m (r + 1) ≡ tree_on m r
    unfolding tree_from
    tree-on h {f = f} x y b =
        let e : m - 1 - r ≡ suc (m - 1 - suc r) = omega arith in
        let d : first_prop_at nd (root_at tr (suc r)) ≤ p = subst (λ (z : ℕ). z ≤ p) (next-first x y) b in
        rw (add-one, e, le-ltb p (first_prop_at nd (root_at tr (suc r))) d)

    pub tree-end : m ≤ r + 1 → r ≡ tree_on m r
    unfolding tree_from
    tree-end h = let e : m - 1 - r ≡ 0 = omega arith in rw e

  pub tree-first : (m : ℕ) → tree_on m 0 ≡ tree_from tr nd p 0 (m - 1)
  tree-first m = let e : m - 1 - 0 ≡ m - 1 = omega arith in rw e
