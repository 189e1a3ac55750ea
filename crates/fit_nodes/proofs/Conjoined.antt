-- The rule by the loops that test it: what one loop tests together, and the whole. Assumes nothing.
use Rattle.lists.proofs.Prelude.{ℕ, ◌+◌, ◌-◌, ◌<◌, ◌≤◌, Bool, true, false, ◌&&◌, List, ◌≡◌, refl, sym, ap, ◌∙◌, subst, arith, and-false}
use Rattle.tables.specs.declared.Counts.{Counts}
use Rattle.tables.specs.Each.{each}
use Rattle.tables.proofs.Cases.{and_left, and_right}
use Rattle.tables.proofs.Each.{each_more, each-end, each-fails}
use Rattle.fit_nodes.specs.Nodes.{roots_right, parent_right, child_right, sibling_right, game_right, depth_right, nodes_fit}

-- ---- roots, parents, depths

no_second : (a b c : Bool) → false ≡ b → false ≡ (a && b && c)
no_second true b c e = ap (λ (z : Bool). z && c) e
no_second false b c e = refl

no_third : (a b c : Bool) → false ≡ c → false ≡ (a && b && c)
no_third true true c e = e
no_third true false c e = refl
no_third false b c e = refl

and-true : (a : Bool) → a ≡ (a && true && true)
and-true true = refl
and-true false = refl

module _ (m n : ℕ) (tr nd : List ℕ) where
  pub rows-root : roots_right m n tr nd ≡ false → false ≡ (roots_right m n tr nd && each n (parent_right nd) && each n (depth_right nd))
  rows-root e = sym (ap (λ (z : Bool). z && each n (parent_right nd) && each n (depth_right nd)) e)

  pub rows-parent : (k : ℕ) → k < n → parent_right nd k ≡ false → false ≡ (roots_right m n tr nd && each n (parent_right nd) && each n (depth_right nd))
  rows-parent k h e = no_second (roots_right m n tr nd) (each n (parent_right nd)) (each n (depth_right nd)) (each-fails (parent_right nd) k n h e)

  pub rows-depth : (k : ℕ) → k < n → depth_right nd k ≡ false → false ≡ (roots_right m n tr nd && each n (parent_right nd) && each n (depth_right nd))
  rows-depth k h e = no_third (roots_right m n tr nd) (each n (parent_right nd)) (each n (depth_right nd)) (each-fails (depth_right nd) k n h e)

  pub rows_all : {r : Bool} → r ≡ roots_right m n tr nd → (k : ℕ) → k ≤ n → n ≤ k → each k (parent_right nd) ≡ true → each k (depth_right nd) ≡ true
      → r ≡ (roots_right m n tr nd && each n (parent_right nd) && each n (depth_right nd))
  rows_all e k a b p d =
      e
      ∙ and-true (roots_right m n tr nd)
      ∙ ap (λ (z : Bool). roots_right m n tr nd && z && true) (each-end (parent_right nd) k n a b p)
      ∙ ap (λ (z : Bool). roots_right m n tr nd && each n (parent_right nd) && z) (each-end (depth_right nd) k n a b d)

  pub rows-rule : (roots_right m n tr nd && each n (parent_right nd) && each n (depth_right nd)) ≡ true → each n (parent_right nd) ≡ true
  rows-rule h = and_right (roots_right m n tr nd) (each n (parent_right nd)) (and_left (roots_right m n tr nd && each n (parent_right nd)) (each n (depth_right nd)) h)

-- ---- first children, next siblings

module _ (n : ℕ) (nd : List ℕ) where
  pub kin-none : n ≡ 0 → true ≡ (each n (child_right nd n) && each n (sibling_right nd n))
  unfolding each
  kin-none e = subst (λ (z : ℕ). true ≡ (each z (child_right nd n) && each z (sibling_right nd n))) (sym e) refl

  pub kin-child : (k : ℕ) → k < n → child_right nd n k ≡ false → false ≡ (each n (child_right nd n) && each n (sibling_right nd n))
  kin-child k h e = ap (λ (z : Bool). z && each n (sibling_right nd n)) (each-fails (child_right nd n) k n h e)

  pub kin-sibling : false ≡ each n (sibling_right nd n) → false ≡ (each n (child_right nd n) && each n (sibling_right nd n))
  kin-sibling e = sym (and-false (each n (child_right nd n))) ∙ ap (λ (z : Bool). each n (child_right nd n) && z) e

  module _ {k : ℕ} (s : 0 < k) (h : each (k - 1) (child_right nd n) ≡ true) (g : child_right nd n (k - 1) ≡ true) where
    before : each k (child_right nd n) ≡ true
    before = let e : k - 1 + 1 ≡ k = omega arith in subst (λ (z : ℕ). each z (child_right nd n) ≡ true) e (each_more (child_right nd n) (k - 1) h g)

    pub kin-next : each (k + 1 - 1) (child_right nd n) ≡ true
    kin-next = let e : k ≡ k + 1 - 1 = omega arith in subst (λ (z : ℕ). each z (child_right nd n) ≡ true) e before

    pub kin-all : k ≤ n → n ≤ k → {r : Bool} → r ≡ each n (sibling_right nd n) → r ≡ (each n (child_right nd n) && each n (sibling_right nd n))
    kin-all a b e = e ∙ ap (λ (z : Bool). z && each n (sibling_right nd n)) (each-end (child_right nd n) k n a b before)

-- ---- the whole

regrouped : (a b c d e f : Bool) → ((a && b && f) && ((c && d) && e)) ≡ (a && b && c && d && e && f)
regrouped false b c d e f = refl
regrouped true false c d e f = refl
regrouped true true false d e true = refl
regrouped true true false d e false = refl
regrouped true true true false e true = refl
regrouped true true true false e false = refl
regrouped true true true true false true = refl
regrouped true true true true false false = refl
regrouped true true true true true true = refl
regrouped true true true true true false = refl

module _ (c : Counts) (tr nd : List ℕ) where
  abbrev rows : Bool
  rows = roots_right c.trees c.nodes tr nd && each c.nodes (parent_right nd) && each c.nodes (depth_right nd)

  abbrev kin : Bool
  kin = each c.nodes (child_right nd c.nodes) && each c.nodes (sibling_right nd c.nodes)

  grouped : (rows && (kin && each c.trees (game_right tr))) ≡ nodes_fit c tr nd
  unfolding nodes_fit
  grouped =
      regrouped (roots_right c.trees c.nodes tr nd) (each c.nodes (parent_right nd)) (each c.nodes (child_right nd c.nodes))
      (each c.nodes (sibling_right nd c.nodes)) (each c.trees (game_right tr)) (each c.nodes (depth_right nd))

  pub fit-rows : rows ≡ false → false ≡ nodes_fit c tr nd
  fit-rows e = sym (ap (λ (z : Bool). z && (kin && each c.trees (game_right tr))) e) ∙ grouped

  pub fit-kin : kin ≡ false → false ≡ nodes_fit c tr nd
  fit-kin e = sym (ap (λ (z : Bool). rows && (z && each c.trees (game_right tr))) e ∙ and-false rows) ∙ grouped

  pub fit_all : rows ≡ true → kin ≡ true → {r : Bool} → r ≡ each c.trees (game_right tr) → r ≡ nodes_fit c tr nd
  fit_all a b e = e ∙ sym (ap (λ (z : Bool). z && (kin && each c.trees (game_right tr))) a ∙ ap (λ (z : Bool). z && each c.trees (game_right tr)) b) ∙ grouped
