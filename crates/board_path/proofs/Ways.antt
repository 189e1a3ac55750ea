-- The way to a node goes over the nodes on its path. Assumes nothing.
use Rattle.lists.proofs.Prelude.{ℕ, zero, suc, ◌≤◌, ◌<◌, Bool, true, false, ◌≡◌, refl, sym, ap, ◌∙◌, List, [], ◌∷◌, ◌++◌, append_assoc, append-nil, pick, arith}
use Rattle.lists.proofs.Tests.{same_or}
use Rattle.tables.specs.Columns.{parent_at}
use Rattle.fit_nodes.specs.Nodes.{has_parent, on_path}
use Rattle.fit_nodes.proofs.Path.{has-before, has-late, path-down}
use Rattle.board_path.specs.Way.{way_up, way_to}

module _ (nd : List ℕ) where
  -- enough is enough
  way-fuel : (f g k : ℕ) → k ≤ f → k ≤ g → way_up nd f k ≡ way_up nd g k
  unfolding way_up
  way-fuel zero zero k a b = refl
  way-fuel zero (suc g) k a b = rw (has-late nd k (omega arith))
  way-fuel (suc f) zero k a b = rw (has-late nd k (omega arith))
  way-fuel (suc f) (suc g) k a b = go (has_parent nd k) refl (λ l. way-fuel f g (parent_at nd k) (omega arith) (omega arith))
    where
      go : (t : Bool) → has_parent nd k ≡ t → (parent_at nd k < k → way_up nd f (parent_at nd k) ≡ way_up nd g (parent_at nd k))
          → pick t (way_up nd f (parent_at nd k) ++ (k ∷ [])) (k ∷ []) ≡ pick t (way_up nd g (parent_at nd k) ++ (k ∷ [])) (k ∷ [])
      go true e r = ap (λ (z : List ℕ). z ++ (k ∷ [])) (r (has-before nd k e).0)
      go false e r = refl

  -- the way to a node with a parent is the way to the parent, and the node
  pub way-child : (k : ℕ) → has_parent nd k ≡ true → way_to nd k ≡ way_to nd (parent_at nd k) ++ (k ∷ [])
  unfolding way_to way_up
  way-child zero e = absurd (let l = (has-before nd 0 e).0 in omega arith)
  way-child (suc k) e =
      let l = (has-before nd (suc k) e).0 in
      rw e (ap (λ (z : List ℕ). z ++ (suc k ∷ [])) (way-fuel k (parent_at nd (suc k)) (parent_at nd (suc k)) (omega arith) (omega arith)))

  -- the way to a root is the root
  pub way-root : (k : ℕ) → has_parent nd k ≡ false → way_to nd k ≡ k ∷ []
  unfolding way_to way_up
  way-root zero e = refl
  way-root (suc k) e = rw e

  -- what comes behind a node on the way
  pub record Behind (at k : ℕ) : Type 0 where
    pub rest : List ℕ
    pub is : way_to nd k ≡ way_to nd at ++ rest

  pub way-split : (f k at : ℕ) → k ≤ f → on_path nd k at ≡ true → Behind at k
  way-split zero k at l o =
      same_or k at (λ e. record { rest = []; is = ap (way_to nd) e ∙ sym (append-nil (way_to nd at)) })
      (λ n. let x = path-down nd k at n o in let b = (has-before nd k x.0).0 in absurd (omega arith))
  way-split (suc f) k at l o =
      same_or k at (λ e. record { rest = []; is = ap (way_to nd) e ∙ sym (append-nil (way_to nd at)) })
      (λ n.
      let x = path-down nd k at n o in
      let b = (has-before nd k x.0).0 in
      let y = way-split f (parent_at nd k) at (omega arith) x.1 in
      record { rest = y.rest ++ (k ∷ []); is = way-child k x.0 ∙ (ap (λ (z : List ℕ). z ++ (k ∷ [])) y.is ∙ append_assoc (way_to nd at) y.rest (k ∷ [])) })
