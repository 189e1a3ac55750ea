-- The path from a node up to its root. Assumes nothing.
use Rattle.lists.proofs.Prelude.{ℕ, zero, suc, ◌≤◌, ◌<◌, Bool, true, false, not, ◌&&◌, ◌||◌, or-false, List, ◌≡◌, refl, sym, ap, ◌∙◌, subst, arith, ltb, eqb, eq-eqb, ne_eqb, lt-ltb, le-ltb, eqb-false, ltb-true}
use Rattle.tables.specs.Numbers.{none}
use Rattle.tables.specs.Columns.{parent_at}
use Rattle.fit_nodes.specs.Nodes.{has_parent, upward, on_path}
use Rattle.tables.proofs.Cases.{either-bool, true-false}
use Rattle.lists.proofs.Tests.{same_or}

module _ (nd : List ℕ) where
  pub has-before : (j : ℕ) → has_parent nd j ≡ true → (parent_at nd j < j) × (parent_at nd j ≡ none → ⊥)
  has-before j h = go (eqb (parent_at nd j) none) (ltb (parent_at nd j) j) refl refl h
    where
      go : (a b : Bool) → eqb (parent_at nd j) none ≡ a → ltb (parent_at nd j) j ≡ b → (not a && b) ≡ true → (parent_at nd j < j) × (parent_at nd j ≡ none → ⊥)
      go true b ea eb z = true-false false z refl
      go false true ea eb z = (ltb-true (parent_at nd j) j eb, eqb-false (parent_at nd j) none ea)
      go false false ea eb z = true-false false z refl

  pub has-parent : (j : ℕ) → (parent_at nd j ≡ none → ⊥) → parent_at nd j < j → has_parent nd j ≡ true
  has-parent j h l = rw (ne_eqb (parent_at nd j) none h, lt-ltb (parent_at nd j) j l)

  pub has-none : (j : ℕ) → parent_at nd j ≡ none → has_parent nd j ≡ false
  has-none j h = rw (eq-eqb (parent_at nd j) none h)

  pub has-late : (j : ℕ) → j ≤ parent_at nd j → has_parent nd j ≡ false
  has-late j h = go (eqb (parent_at nd j) none)
    where
      go : (a : Bool) → (not a && ltb (parent_at nd j) j) ≡ false
      go true = refl
      go false = le-ltb (parent_at nd j) j h

  -- enough is enough
  fuel : (f g j p : ℕ) → j ≤ f → j ≤ g → upward nd f j p ≡ upward nd g j p
  unfolding upward
  fuel zero zero j p a b = refl
  fuel zero (suc g) j p a b = rw (has-late j (omega arith)) (sym (or-false (eqb j p)))
  fuel (suc f) zero j p a b = rw (has-late j (omega arith)) (or-false (eqb j p))
  fuel (suc f) (suc g) j p a b = go (has_parent nd j) refl (λ l. fuel f g (parent_at nd j) p (omega arith) (omega arith))
    where
      go : (h : Bool) → has_parent nd j ≡ h → (parent_at nd j < j → upward nd f (parent_at nd j) p ≡ upward nd g (parent_at nd j) p)
          → (eqb j p || (h && upward nd f (parent_at nd j) p)) ≡ (eqb j p || (h && upward nd g (parent_at nd j) p))
      go true e r = ap (λ (z : Bool). eqb j p || z) (r (has-before j e).0)
      go false e r = refl

  pub path-unfold : (j p : ℕ) → on_path nd j p ≡ (eqb j p || (has_parent nd j && on_path nd (parent_at nd j) p))
  unfolding on_path upward
  path-unfold zero p = rw (has-late 0 (omega arith)) (sym (or-false (eqb 0 p)))
  path-unfold (suc j) p = go (has_parent nd (suc j)) refl
    where
      go : (h : Bool) → has_parent nd (suc j) ≡ h
          → (eqb (suc j) p || (h && upward nd j (parent_at nd (suc j)) p)) ≡ (eqb (suc j) p || (h && upward nd (parent_at nd (suc j)) (parent_at nd (suc j)) p))
      go true e = let l = (has-before (suc j) e).0 in ap (λ (z : Bool). eqb (suc j) p || z) (fuel j (parent_at nd (suc j)) (parent_at nd (suc j)) p (omega arith) (omega arith))
      go false e = refl

  pub path-self : (j : ℕ) → on_path nd j j ≡ true
  path-self j = path-unfold j j ∙ rw (eq-eqb j j refl)

  pub path-up : (j p : ℕ) → (j ≡ p → ⊥) → has_parent nd j ≡ true → on_path nd j p ≡ on_path nd (parent_at nd j) p
  path-up j p h e = path-unfold j p ∙ rw (ne_eqb j p h, e)

  pub path-out : (j p : ℕ) → (j ≡ p → ⊥) → has_parent nd j ≡ false → on_path nd j p ≡ false
  path-out j p h e = path-unfold j p ∙ rw (ne_eqb j p h, e)

  -- up from j, if p is above it
  pub path-down : (j p : ℕ) → (j ≡ p → ⊥) → on_path nd j p ≡ true → (has_parent nd j ≡ true) × (on_path nd (parent_at nd j) p ≡ true)
  path-down j p h o =
      either-bool (has_parent nd j) (λ e. (e, sym (path-up j p h e) ∙ o)) (λ e. true-false (on_path nd j p) o (path-out j p h e))

  le-under : (f j p : ℕ) → j ≤ f → on_path nd j p ≡ true → p ≤ j
  le-under zero j p b o =
      same_or j p (λ e. omega arith) (λ e. let d = (has-before j (path-down j p e o).0).0 in absurd (omega arith))
  le-under (suc f) j p b o =
      same_or j p (λ e. omega arith)
      (λ e. let d = path-down j p e o in let l = (has-before j d.0).0 in let r = le-under f (parent_at nd j) p (omega arith) d.1 in omega arith)

  pub path-le : (j p : ℕ) → on_path nd j p ≡ true → p ≤ j
  path-le j p o = le-under j j p (omega arith) o

  pub path-not : (j p : ℕ) → j < p → on_path nd j p ≡ false
  path-not j p h = either-bool (on_path nd j p) (λ o. let l = path-le j p o in absurd (omega arith)) (λ o. o)

  trans-under : (f j p q : ℕ) → j ≤ f → on_path nd j p ≡ true → on_path nd p q ≡ true → on_path nd j q ≡ true
  trans-under zero j p q b o r =
      same_or j p (λ e. subst (λ (z : ℕ). on_path nd z q ≡ true) (sym e) r)
      (λ e. let d = (has-before j (path-down j p e o).0).0 in absurd (omega arith))
  trans-under (suc f) j p q b o r =
      same_or j p (λ e. subst (λ (z : ℕ). on_path nd z q ≡ true) (sym e) r)
      (λ e.
      let d = path-down j p e o in
      let l = (has-before j d.0).0 in
      same_or j q (λ w. subst (λ (z : ℕ). on_path nd j z ≡ true) w (path-self j))
      (λ w. path-up j q w d.0 ∙ trans-under f (parent_at nd j) p q (omega arith) d.1 r))

  pub path-trans : (j p q : ℕ) → on_path nd j p ≡ true → on_path nd p q ≡ true → on_path nd j q ≡ true
  path-trans j p q o r = trans-under j j p q (omega arith) o r
