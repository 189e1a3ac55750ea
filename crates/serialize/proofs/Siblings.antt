-- How many nodes have one parent: two or more where a node is not the first child or has a next sibling. Assumes nothing.
use Rattle.lists.proofs.Prelude.{ℕ, zero, suc, ◌+◌, ◌≤◌, ◌<◌, ◌-◌, Bool, true, not, or-true, List, ◌≡◌, refl, ap, ◌∙◌, subst, arith, eqb, leb, eq-eqb, ne_eqb, le-leb, pick}
use Rattle.tables.specs.Numbers.{none}
use Rattle.tables.proofs.Cases.{true-false}
use Rattle.lists.proofs.Tests.{same_or}
use Rattle.fit_nodes.proofs.Children.{first-none, first-at}
use Rattle.fit_nodes.proofs.Path.{has-none, path-out}
use Rattle.fit_nodes.proofs.Rule.{rule-before, off-on, parent-on}
use Rattle.tables.specs.Columns.{parent_at, child_at, sibling_at}
use Rattle.tables.specs.Each.{tabulate}
use Rattle.fit_nodes.specs.Locals.{Ruled}
use Rattle.fit_nodes.specs.Nodes.{first_under, next_sibling, on_path}
use Rattle.serialize.specs.LocalsWalk.{in_brackets}
use Rattle.serialize.specs.LocalsWrite.{times}

module _ (nd : List ℕ) (p : ℕ) where
  -- those of the m nodes from k on whose parent is p
  abbrev pub counted : (k m : ℕ) → ℕ
  counted k m = times p (tabulate (parent_at nd) k m)

  pub counted-more : (x y k : ℕ) → counted k (x + y) ≡ counted k x + counted (k + x) y
  unfolding tabulate
  counted-more zero y k =
      let e : k + 0 ≡ k = omega arith in
      let d : 0 + y ≡ y = omega arith in
      rw (e, d) (omega arith)
  counted-more (suc x) y k =
      let e : k + suc x ≡ suc k + x = omega arith in
      let d : suc x + y ≡ suc (x + y) = omega arith in
      let r = counted-more x y (suc k) in
      same_or (parent_at nd k) p
      (λ z. rw (e, d, eq-eqb (parent_at nd k) p z) (omega arith))
      (λ z. rw (e, d, ne_eqb (parent_at nd k) p z) r)

  pub counted_none : (m k : ℕ) → ((i : ℕ) → k ≤ i → i < k + m → parent_at nd i ≡ p → ⊥) → counted k m ≡ 0
  unfolding tabulate
  counted_none zero k h = refl
  counted_none (suc m) k h = rw (ne_eqb (parent_at nd k) p (h k (omega arith) (omega arith))) (counted_none m (suc k) (λ i a b. h i (omega arith) (omega arith)))

  none-counted : (m k : ℕ) → counted k m ≡ 0 → (i : ℕ) → k ≤ i → i < k + m → parent_at nd i ≡ p → ⊥
  unfolding tabulate
  none-counted zero k h i a b e = omega arith
  none-counted (suc m) k h i a b e =
      same_or (parent_at nd k) p
      (λ z. let w : suc (counted (suc k) m) ≡ 0 = subst (λ (v : Bool). pick v (suc (counted (suc k) m)) (counted (suc k) m) ≡ 0) (eq-eqb (parent_at nd k) p z) h in omega arith)
      (λ z.
      let w : counted (suc k) m ≡ 0 = subst (λ (v : Bool). pick v (suc (counted (suc k) m)) (counted (suc k) m) ≡ 0) (ne_eqb (parent_at nd k) p z) h in
      same_or k i (λ v. z (ap (parent_at nd) v ∙ e)) (λ v. none-counted m (suc k) w i (omega arith) (omega arith) e))

  -- the first of them stands among those that were counted
  first_counted : (m y k : ℕ) → 0 < counted k m → first_under nd p k (m + y) < k + m
  unfolding tabulate first_under
  first_counted zero y k h = absurd (omega arith)
  first_counted (suc m) y k h =
      let d : suc m + y ≡ suc (m + y) = omega arith in
      same_or (parent_at nd k) p
      (λ z. rw (d, eq-eqb (parent_at nd k) p z) (omega arith))
      (λ z.
      let w : 0 < counted (suc k) m = subst (λ (v : Bool). 0 < pick v (suc (counted (suc k) m)) (counted (suc k) m)) (ne_eqb (parent_at nd k) p z) h in
      rw (d, ne_eqb (parent_at nd k) p z) (omega (arith, first_counted m y (suc k) w)))

-- ---- a node that has a parent stands in brackets where its parent is counted twice

module _ (nd : List ℕ) (n k : ℕ) (few : n ≤ none) (below : k < n) (has : parent_at nd k ≡ none → ⊥)
    (child : child_at nd (parent_at nd k) ≡ first_under nd (parent_at nd k) 0 n) (sibling : sibling_at nd k ≡ next_sibling nd n k) where
  abbrev p : ℕ
  p = parent_at nd k

  abbrev before : ℕ
  before = counted nd p 0 k

  abbrev behind : ℕ
  behind = counted nd p (suc k) (n - suc k)

  counted-all : counted nd p 0 n ≡ before + suc behind
  unfolding tabulate
  counted-all =
      let e : n ≡ k + suc (n - suc k) = omega arith in
      let z : 0 + k ≡ k = omega arith in
      ap (counted nd p 0) e ∙ counted-more nd p k (suc (n - suc k)) 0 ∙ rw (z, eq-eqb (parent_at nd k) p refl)

  sibling-is : sibling_at nd k ≡ first_under nd p (suc k) (n - suc k)
  sibling-is = sibling ∙ rw (ne_eqb (parent_at nd k) none has)

  first-child : before ≡ 0 → child_at nd p ≡ k
  first-child h = child ∙ first-at nd p n 0 k (λ m a b. none-counted nd p k 0 h m a (omega arith)) refl (omega arith) (omega arith)

  later-child : 0 < before → child_at nd p ≡ k → ⊥
  later-child h e =
      let d : k + (n - k) ≡ n = omega arith in
      let f = subst (λ (z : ℕ). first_under nd p 0 z < 0 + k) d (first_counted nd p k (n - k) 0 h) in
      omega (arith, child)

  last-child : behind ≡ 0 → sibling_at nd k ≡ none
  last-child h = sibling-is ∙ first-none nd p (n - suc k) (suc k) (λ m a b. none-counted nd p (n - suc k) (suc k) h m a b)

  more-children : 0 < behind → sibling_at nd k ≡ none → ⊥
  more-children h e =
      let d : n - suc k + 0 ≡ n - suc k = omega arith in
      let f = subst (λ (z : ℕ). first_under nd p (suc k) z < suc k + (n - suc k)) d (first_counted nd p (n - suc k) 0 (suc k) h) in
      omega (arith, sibling-is)

  pub brackets-are : leb 2 (counted nd p 0 n) ≡ in_brackets nd k
  brackets-are =
      rw (counted-all, ne_eqb (parent_at nd k) none has)
      (same_or before 0
      (λ a. same_or behind 0
      (λ b. rw (a, b, eq-eqb (child_at nd p) k (first-child a), eq-eqb (sibling_at nd k) none (last-child b)))
      (λ b. rw (ne_eqb (sibling_at nd k) none (more-children (omega arith)), or-true (not (eqb (child_at nd p) k))) (le-leb 2 (before + suc behind) (omega arith))))
      (λ a. rw (ne_eqb (child_at nd p) k (later-child (omega arith))) (le-leb 2 (before + suc behind) (omega arith))))

-- ---- a tree's own nodes, from a up to b, are all that have a parent among them

module _ {nd : List ℕ} {n : ℕ} (ruled : Ruled nd n) (a b : ℕ) (order : a ≤ b) (inside : b ≤ n) (next : b < n → parent_at nd b ≡ none) where
  -- a node behind the tree has no parent in it
  behind-not : (p m : ℕ) → p < b → b ≤ m → m < n → parent_at nd m ≡ p → ⊥
  behind-not p m l h u e =
      let o = path-out nd b p (λ z. omega arith) (has-none nd b (next (omega arith))) in
      let f = off-on ruled b m p h u (omega arith) o in
      let w = ruled.most in
      let g : on_path nd m p ≡ true = subst (λ (z : ℕ). on_path nd m z ≡ true) e (parent-on ruled m u (λ z. omega arith)) in
      true-false (on_path nd m p) g f

  pub counted-here : (p : ℕ) → a ≤ p → p < b → counted nd p a (b - a) ≡ counted nd p 0 n
  counted-here p l u =
      let w = ruled.most in
      let e : n ≡ a + ((b - a) + (n - b)) = omega arith in
      let c : 0 + a ≡ a = omega arith in
      let d : a + (b - a) ≡ b = omega arith in
      let x : counted nd p 0 a ≡ 0 = counted_none nd p a 0 (λ i f g h. omega (arith, rule-before ruled i (omega arith) (λ z. omega arith))) in
      let y : counted nd p b (n - b) ≡ 0 = counted_none nd p (n - b) b (λ i f g h. behind-not p i u f (omega arith) h) in
      let m : counted nd p 0 n ≡ counted nd p 0 a + counted nd p a ((b - a) + (n - b)) = ap (counted nd p 0) e ∙ counted-more nd p a ((b - a) + (n - b)) 0 ∙ rw c in
      let o : counted nd p a ((b - a) + (n - b)) ≡ counted nd p a (b - a) + counted nd p b (n - b) = counted-more nd p (b - a) (n - b) a ∙ rw d in
      omega arith
