-- What the rule of the parents says of paths. Assumes nothing.
use Rattle.lists.proofs.Prelude.{ℕ, zero, suc, ◌+◌, ◌-◌, ◌≤◌, ◌<◌, Bool, true, false, ◌&&◌, ◌||◌, List, ◌≡◌, refl, ◌∙◌, subst, arith, ltb, eqb, eqb-true, ltb-true}
use Rattle.tables.specs.Numbers.{none}
use Rattle.tables.specs.Columns.{parent_at}
use Rattle.fit_nodes.specs.Locals.{Ruled}
use Rattle.fit_nodes.specs.Nodes.{has_parent, on_path, parent_right}
use Rattle.tables.proofs.Cases.{either-bool, true-false}
use Rattle.tables.proofs.Each.{each_at}
use Rattle.fit_nodes.proofs.Path.{has-before, has-parent, path-self, path-up, path-out, path-down, path-le, path-trans}

-- of one node whose parent is right
module _ (nd : List ℕ) (k : ℕ) (e : parent_right nd k ≡ true) (h : parent_at nd k ≡ none → ⊥) where
  right-at : (0 < k) × (on_path nd (k - 1) (parent_at nd k) ≡ true)
  right-at = go (eqb (parent_at nd k) none) (ltb 0 k) (on_path nd (k - 1) (parent_at nd k)) refl refl refl e
    where
      go : (a b o : Bool) → eqb (parent_at nd k) none ≡ a → ltb 0 k ≡ b → on_path nd (k - 1) (parent_at nd k) ≡ o → (a || (b && o)) ≡ true
          → (0 < k) × (on_path nd (k - 1) (parent_at nd k) ≡ true)
      go true b o ea eb eo z = absurd (h (eqb-true (parent_at nd k) none ea))
      go false true true ea eb eo z = (ltb-true 0 k eb, eo)
      go false true false ea eb eo z = true-false false z refl
      go false false o ea eb eo z = true-false false z refl

  pub right-before : parent_at nd k < k
  right-before = let r = right-at in let q = path-le nd (k - 1) (parent_at nd k) r.1 in let z = r.0 in omega arith

module _ {nd : List ℕ} {n : ℕ} (ruled : Ruled nd n) where
  pub rule-at : (k : ℕ) → k < n → (parent_at nd k ≡ none → ⊥) → (0 < k) × (on_path nd (k - 1) (parent_at nd k) ≡ true)
  rule-at k l h = right-at nd k (each_at (parent_right nd) n k ruled.rule l) h

  pub rule-before : (k : ℕ) → k < n → (parent_at nd k ≡ none → ⊥) → parent_at nd k < k
  rule-before k l h = let r = rule-at k l h in let q = path-le nd (k - 1) (parent_at nd k) r.1 in let z = r.0 in omega arith

  pub rule-has : (k : ℕ) → k < n → (parent_at nd k ≡ none → ⊥) → has_parent nd k ≡ true
  rule-has k l h = has-parent nd k h (rule-before k l h)

  -- a node that is left stays left
  off-one : (m i : ℕ) → suc m < n → i ≤ m → on_path nd m i ≡ false → on_path nd (suc m) i ≡ false
  off-one m i l b o =
      either-bool (has_parent nd (suc m))
      (λ e.
      let q = has-before nd (suc m) e in
      let r = (rule-at (suc m) l q.1).1 in
      let s : suc m - 1 ≡ m = omega arith in
      path-up nd (suc m) i (λ z. omega arith) e
      ∙ either-bool (on_path nd (parent_at nd (suc m)) i)
      (λ w. true-false (on_path nd m i) (path-trans nd m (parent_at nd (suc m)) i (subst (λ (z : ℕ). on_path nd z (parent_at nd (suc m)) ≡ true) s r) w) o) (λ w. w))
      (λ e. path-out nd (suc m) i (λ z. omega arith) e)

  off-far : (d m i : ℕ) → m + d < n → i ≤ m → on_path nd m i ≡ false → on_path nd (m + d) i ≡ false
  off-far zero m i l b o = let e : m + 0 ≡ m = omega arith in rw e o
  off-far (suc d) m i l b o =
      let e : m + suc d ≡ suc (m + d) = omega arith in
      rw e (off-one (m + d) i (omega arith) (omega arith) (off-far d m i (omega arith) b o))

  pub off-on : (m k i : ℕ) → m ≤ k → k < n → i ≤ m → on_path nd m i ≡ false → on_path nd k i ≡ false
  off-on m k i a l b o = let e : m + (k - m) ≡ k = omega arith in subst (λ (z : ℕ). on_path nd z i ≡ false) e (off-far (k - m) m i (omega arith) b o)

  -- all between a node and one below it are below it
  pub on-between : (m k i : ℕ) → m ≤ k → k < n → i ≤ m → on_path nd k i ≡ true → on_path nd m i ≡ true
  on-between m k i a l b o = either-bool (on_path nd m i) (λ w. w) (λ w. true-false (on_path nd k i) o (off-on m k i a l b w))

  -- a node's parent is on its path
  pub parent-on : (m : ℕ) → m < n → (parent_at nd m ≡ none → ⊥) → on_path nd m (parent_at nd m) ≡ true
  parent-on m l h =
      let b = rule-before m l h in
      path-up nd m (parent_at nd m) (λ z. omega arith) (rule-has m l h) ∙ path-self nd (parent_at nd m)

  -- parents of the nodes between a node and one below it are not before it
  pub parent-between : (m k i : ℕ) → i < m → m ≤ k → k < n → on_path nd k i ≡ true → i ≤ parent_at nd m
  parent-between m k i a b l o =
      let d = path-down nd m i (λ z. omega arith) (on-between m k i b l (omega arith) o) in
      path-le nd (parent_at nd m) i d.1
