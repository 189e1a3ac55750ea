-- The tree that has a node, and its root. Assumes nothing.
use Rattle.lists.proofs.Prelude.{ℕ, zero, suc, ◌+◌, ◌-◌, ◌≤◌, ◌<◌, Bool, true, false, ◌≡◌, refl, sym, ap, ◌∙◌, subst, List, leb, pick, arith, le-leb, lt-leb, leb-true, leb-false}
use Rattle.lists.proofs.Tests.{same_or}
use Rattle.tables.proofs.Cases.{either-bool, true-false}
use Rattle.tables.specs.Numbers.{none}
use Rattle.tables.specs.Columns.{root_at, parent_at}
use Rattle.fit_nodes.specs.Locals.{Ruled}
use Rattle.fit_nodes.specs.Nodes.{roots_right, has_parent, on_path}
use Rattle.fit_nodes.proofs.Path.{has-before, has-none, path-self, path-up, path-out, path-le}
use Rattle.fit_nodes.proofs.Rule.{rule-has, on-between}
use Rattle.fit.proofs.RootRows.{root_in, root-rises, orphan-root}
use Rattle.board.specs.Answer.{tree_over}

module _ (tr : List ℕ) (k : ℕ) where
  pub over-here : (t : ℕ) → 0 < t → root_at tr (t - 1) ≤ k → t - 1 ≡ tree_over tr k t
  unfolding tree_over
  over-here zero l h = absurd (omega arith)
  over-here (suc t) l h = let e : suc t - 1 ≡ t = omega arith in rw (e, le-leb (root_at tr t) k (subst (λ (z : ℕ). root_at tr z ≤ k) e h))

  pub over-on : (t : ℕ) → 0 < t → k < root_at tr (t - 1) → tree_over tr k (t - 1) ≡ tree_over tr k t
  unfolding tree_over
  over-on zero l h = absurd (omega arith)
  over-on (suc t) l h = let e : suc t - 1 ≡ t = omega arith in rw (e, lt-leb (root_at tr t) k (subst (λ (z : ℕ). k < root_at tr z) e h))

  pub over_none : tree_over tr k 0 ≡ 0
  unfolding tree_over
  over_none = refl

  -- the last root that is not behind k, where there is one
  pub record Last (n r t : ℕ) : Type 0 where
    pub within : t < n
    pub before : root_at tr t ≤ k
    pub last : r ≤ t

  pub over_last : (n r : ℕ) → r < n → root_at tr r ≤ k → Last n r (tree_over tr k n)
  unfolding tree_over
  over_last zero r l h = absurd (omega arith)
  over_last (suc n) r l h = go (leb (root_at tr n) k) refl (λ (m : r < n). over_last n r m h)
    where
      go : (b : Bool) → leb (root_at tr n) k ≡ b → (r < n → Last n r (tree_over tr k n)) → Last (suc n) r (pick b n (tree_over tr k n))
      go true e f = record { within = omega arith; before = leb-true (root_at tr n) k e; last = omega arith }
      go false e f =
          same_or r n (λ z. let d = leb-false (root_at tr n) k e in let g = subst (λ (v : ℕ). root_at tr v ≤ k) z h in absurd (omega arith))
          (λ z. let x = f (omega arith) in let w = x.within in record { within = omega arith; before = x.before; last = x.last })

-- the topmost node above k
record Top (nd : List ℕ) (k : ℕ) : Type 0 where
  pub node : ℕ
  pub on : on_path nd k node ≡ true
  pub orphan : has_parent nd node ≡ false

top : (nd : List ℕ) (f k : ℕ) → k ≤ f → Top nd k
top nd zero k l = record { node = k; on = path-self nd k; orphan = either-bool (has_parent nd k) (λ e. let b = (has-before nd k e).0 in absurd (omega arith)) (λ e. e) }
top nd (suc f) k l =
    either-bool (has_parent nd k)
    (λ e.
    let b = (has-before nd k e).0 in
    let x = top nd f (parent_at nd k) (omega arith) in
    let c = path-le nd (parent_at nd k) x.node x.on in
    record { node = x.node; on = path-up nd k x.node (λ z. omega arith) e ∙ x.on; orphan = x.orphan })
    (λ e. record { node = k; on = path-self nd k; orphan = e })

-- the tree that has k: its root is on the path of k and has no parent
pub record Rooted (tr nd : List ℕ) (k m n t : ℕ) : Type 0 where
  pub within : t < m
  pub inside : root_at tr t < n
  pub orphan : parent_at nd (root_at tr t) ≡ none
  pub on : on_path nd k (root_at tr t) ≡ true

module _ (tr nd : List ℕ) (m n : ℕ) (ruled : Ruled nd n) (roots : roots_right m n tr nd ≡ true) (k : ℕ) (inside : k < n) where
  rises : (d r : ℕ) → r < m → suc (r + d) < m → root_at tr r < root_at tr (suc (r + d))
  rises zero r l h = let e : r + 0 ≡ r = omega arith in rw e (root-rises tr nd m n roots r (omega arith))
  rises (suc d) r l h =
      let e : r + suc d ≡ suc (r + d) = omega arith in
      let x = rises d r l (omega arith) in
      let y = root-rises tr nd m n roots (suc (r + d)) (omega arith) in
      rw e (omega arith)

  rises-to : (r t : ℕ) → r < t → t < m → root_at tr r < root_at tr t
  rises-to r t l h = let e : suc (r + (t - suc r)) ≡ t = omega arith in subst (λ (z : ℕ). root_at tr r < root_at tr z) e (rises (t - suc r) r (omega arith) (omega arith))

  pub tree-rooted : Rooted tr nd k m n (tree_over tr k m)
  tree-rooted =
      let x = top nd k k (omega arith) in
      let c = path-le nd k x.node x.on in
      let p : parent_at nd x.node ≡ none =
      same_or (parent_at nd x.node) none (λ e. e) (λ e. true-false (has_parent nd x.node) (rule-has ruled x.node (omega arith) e) x.orphan) in
      let q = orphan-root tr nd m n roots x.node (omega arith) p in
      let e = q.2 in
      let y = over_last tr k m q.0 q.1 (subst (λ (z : ℕ). z ≤ k) (sym e) c) in
      let i = root_in tr nd m n roots (tree_over tr k m) y.within in
      let b = y.before in
      same_or q.0 (tree_over tr k m)
      (λ z.
      let f : x.node ≡ root_at tr (tree_over tr k m) = sym e ∙ ap (root_at tr) z in
      record { within = y.within; inside = i.0; orphan = i.1; on = subst (λ (v : ℕ). on_path nd k v ≡ true) f x.on })
      (λ z.
      let l = y.last in
      let g = rises-to q.0 (tree_over tr k m) (omega arith) y.within in
      let h : x.node < root_at tr (tree_over tr k m) = subst (λ (v : ℕ). v < root_at tr (tree_over tr k m)) e g in
      true-false (on_path nd (root_at tr (tree_over tr k m)) x.node) (on-between ruled (root_at tr (tree_over tr k m)) k x.node b inside (omega arith) x.on)
      (path-out nd (root_at tr (tree_over tr k m)) x.node (λ v. omega arith) (has-none nd (root_at tr (tree_over tr k m)) i.1)))
