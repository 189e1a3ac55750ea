-- First children, under the rule of the parents: only the next node can be one. Assumes nothing.
use Rattle.lists.proofs.Prelude.{ℕ, zero, suc, ◌+◌, ◌≤◌, ◌<◌, true, List, ◌≡◌, refl, sym, ap, ◌∙◌, subst, arith, eqb, eq-eqb, ne_eqb}
use Rattle.tables.specs.Numbers.{none}
use Rattle.tables.specs.Columns.{parent_at, child_at}
use Rattle.fit_nodes.specs.Locals.{Ruled}
use Rattle.fit_nodes.specs.Nodes.{on_path, first_under, child_right}
use Rattle.lists.proofs.Tests.{same_or}
use Rattle.fit_nodes.proofs.Path.{has-before, path-down, path-le}
use Rattle.fit_nodes.proofs.Rule.{rule-before, on-between, parent-on}

module _ (nd : List ℕ) (p : ℕ) where
  pub first-none : (c k : ℕ) → ((m : ℕ) → k ≤ m → m < k + c → parent_at nd m ≡ p → ⊥) → first_under nd p k c ≡ none
  unfolding first_under
  first-none zero k h = refl
  first-none (suc c) k h =
      rw (ne_eqb (parent_at nd k) p (h k (omega arith) (omega arith))) (first-none c (suc k) (λ m a b. h m (omega arith) (omega arith)))

  pub first-at : (c a k : ℕ) → ((m : ℕ) → a ≤ m → m < k → parent_at nd m ≡ p → ⊥) → parent_at nd k ≡ p → a ≤ k → k < a + c → first_under nd p a c ≡ k
  unfolding first_under
  first-at zero a k h e l r = absurd (omega arith)
  first-at (suc c) a k h e l r =
      same_or a k (λ z. rw (eq-eqb (parent_at nd a) p (ap (parent_at nd) z ∙ e)) z)
      (λ z. rw (ne_eqb (parent_at nd a) p (h a (omega arith) (omega arith))) (first-at c (suc a) k (λ m x y. h m (omega arith) y) e (omega arith) (omega arith)))

module _ {nd : List ℕ} {n : ℕ} (ruled : Ruled nd n) where
  abbrev most : n ≤ none
  most = ruled.most

  parent-far : (k m : ℕ) → k < none → m < n → parent_at nd m ≡ k → k < m
  parent-far k m b l e = let r = rule-before ruled m l (λ z. omega arith) in omega arith

  pub child-next : (k : ℕ) → suc k < n → parent_at nd (suc k) ≡ k → first_under nd k 0 n ≡ suc k
  child-next k l e = first-at nd k n 0 (suc k) (λ m a b z. let q = parent-far k m (omega arith) (omega arith) z in omega arith) e (omega arith) (omega arith)

  pub child-none : (k : ℕ) → k < n → (suc k < n → parent_at nd (suc k) ≡ k → ⊥) → first_under nd k 0 n ≡ none
  child-none k l h =
      first-none nd k n 0
      (λ m a b z.
      let q = parent-far k m (omega arith) (omega arith) z in
      let o : on_path nd m k ≡ true = subst (λ (x : ℕ). on_path nd m x ≡ true) z (parent-on ruled m (omega arith) (λ w. omega arith)) in
      let d = path-down nd (suc k) k (λ w. omega arith) (on-between ruled (suc k) m k (omega arith) (omega arith) (omega arith) o) in
      let g = path-le nd (parent_at nd (suc k)) k d.1 in
      let s = (has-before nd (suc k) d.0).0 in
      h (omega arith) (omega arith))

  pub child-right : (k : ℕ) → k + 1 < n → {q f : ℕ} → q ≡ parent_at nd (k + 1) → q ≡ k → f ≡ child_at nd k → eqb f (k + 1) ≡ child_right nd n k
  child-right k l {q} {f} eq e ef =
      let s : k + 1 ≡ suc k = omega arith in
      let z : first_under nd k 0 n ≡ k + 1 = child-next k (omega arith) (ap (parent_at nd) (sym s) ∙ sym eq ∙ e) ∙ sym s in
      rw (z, ef)

  pub child-off : (k : ℕ) → k < n → (k + 1 < n → parent_at nd (k + 1) ≡ k → ⊥) → eqb (child_at nd k) none ≡ child_right nd n k
  child-off k l h =
      let s : suc k ≡ k + 1 = omega arith in
      let z : first_under nd k 0 n ≡ none = child-none k l (λ a b. h (omega arith) (ap (parent_at nd) (sym s) ∙ b)) in
      rw z
