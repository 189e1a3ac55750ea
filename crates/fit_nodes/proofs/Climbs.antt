-- The climb from node k - 1 to the parent p of node k: of the nodes it leaves, the child of p is followed by k, the others by none. Assumes nothing.
use Rattle.lists.proofs.Prelude.{ℕ, suc, ◌-◌, ◌≤◌, ◌<◌, Bool, true, false, List, ◌≡◌, refl, sym, ◌∙◌, subst, arith, eqb, eq-eqb, ne_eqb}
use Rattle.tables.specs.Numbers.{none}
use Rattle.tables.specs.Columns.{parent_at, sibling_at}
use Rattle.tables.specs.Each.{each}
use Rattle.fit_nodes.specs.Locals.{NextParent, Climbed}
use Rattle.fit_nodes.specs.Nodes.{on_path, next_sibling, sibling_right}
use Rattle.tables.proofs.Cases.{either-bool, below_or, true-false}
use Rattle.lists.proofs.Tests.{same_or}
use Rattle.fit_nodes.proofs.Children.{first-none, first-at}
use Rattle.tables.proofs.Each.{each-fails}
use Rattle.fit_nodes.proofs.Path.{has-before, has-none, path-self, path-up, path-out, path-down, path-le, path-not, path-trans}
use Rattle.fit_nodes.proofs.Rule.{rule-at, rule-before, rule-has, off-on, parent-on, parent-between}

-- the climb stands at j, on the path of k - 1 and below p; the nodes that it has left are right
pub record Climbing (nd : List ℕ) (n k p j : ℕ) : Type 0 where
  pub next : NextParent nd n k p
  pub under : j < k
  pub on : on_path nd (k - 1) j ≡ true
  pub above : (p ≡ none → ⊥) → (on_path nd j p ≡ true) × (p < j)
  pub done : (i : ℕ) → i < k → on_path nd (k - 1) i ≡ true → on_path nd j i ≡ false → sibling_right nd n i ≡ true

module _ {nd : List ℕ} {n k p : ℕ} (x : NextParent nd n k p) where
  not_last : (p ≡ none → ⊥) → (k < n) × (p ≡ parent_at nd k)
  not_last h = below_or k n (λ l. (l, x.more l)) (λ l. absurd (h (x.last l)))

  p-on : (p ≡ none → ⊥) → on_path nd (k - 1) p ≡ true
  p-on h =
      let q = not_last h in
      subst (λ (z : ℕ). on_path nd (k - 1) z ≡ true) (sym q.1) (rule-at x.ruled k q.0 (λ z. h (q.1 ∙ z))).1

  -- k - 1 is the parent itself: nothing is left
  pub climb-self : k - 1 ≡ p → Climbed nd n k p true
  climb-self e =
      record {
        right = λ z i l o h.
            let g : p ≡ none → ⊥ = λ w. omega (arith, x.ruled.most, x.some, x.in-range) in
            true-false (on_path nd (k - 1) i) o (subst (λ (w : ℕ). on_path nd w i ≡ false) (sym e) (h g));
        wrong = λ z. true-false true refl z;
      }

  pub climb-first : (k - 1 ≡ p → ⊥) → Climbing nd n k p (k - 1)
  climb-first e =
      record {
        next = x;
        under = omega (arith, x.some);
        on = path-self nd (k - 1);
        above = λ h. (p-on h, omega (arith, path-le nd (k - 1) p (p-on h)));
        done = λ i l o z. true-false (on_path nd (k - 1) i) o z;
      }

module _ {nd : List ℕ} {n k p j : ℕ} (y : Climbing nd n k p j) where
  abbrev x : NextParent nd n k p
  x = y.next

  pub climb-in : j < n
  climb-in = omega (arith, y.under, x.in-range)

  -- p is above j's parent, or j's parent is p
  above-up : (p ≡ none → ⊥) → (parent_at nd j ≡ p → ⊥) → (on_path nd (parent_at nd j) p ≡ true) × (p < parent_at nd j)
  above-up z h =
      let a = y.above z in
      let d = (path-down nd j p (λ v. omega (arith, a.1)) a.0).1 in
      (d, same_or (parent_at nd j) p (λ v. absurd (h v)) (λ v. omega (arith, path-le nd (parent_at nd j) p d)))

  pub climb-less : (parent_at nd j ≡ p → ⊥) → (parent_at nd j < j) × (parent_at nd j ≡ none → ⊥)
  climb-less h =
      same_or p none (λ z. let w : parent_at nd j ≡ none → ⊥ = λ v. h (v ∙ sym z) in (rule-before x.ruled j climb-in w, w))
      (λ z. let a = y.above z in has-before nd j (path-down nd j p (λ v. omega (arith, a.1)) a.0).0)

  between : (m : ℕ) → j < m → m < k → j ≤ parent_at nd m
  between m a b = parent-between x.ruled m (k - 1) j a (omega arith) (omega (arith, x.in-range)) y.on

  next-child : parent_at nd j ≡ p → (p ≡ none → ⊥) → next_sibling nd n j ≡ k
  next-child a b =
      let q = not_last x b in
      let l = (y.above b).1 in
      let u = y.under in
      rw (ne_eqb (parent_at nd j) none (λ z. b (sym a ∙ z)))
      (first-at nd (parent_at nd j) (n - suc j) (suc j) k (λ m c d z. omega (arith, between m (omega arith) d)) (sym q.1 ∙ sym a) (omega arith) (omega (arith, q.0)))

  k_off : (parent_at nd j ≡ p → ⊥) → k < n → on_path nd k (parent_at nd j) ≡ false
  k_off h l =
      let q = (climb-less h).0 in
      let u = y.under in
      same_or p none
      (λ z. path-out nd k (parent_at nd j) (λ v. omega arith) (has-none nd k (sym (x.more l) ∙ z)))
      (λ z. path-up nd k (parent_at nd j) (λ v. omega arith) (rule-has x.ruled k l (λ v. z (x.more l ∙ v)))
      ∙ path-not nd (parent_at nd k) (parent_at nd j) (omega (arith, (above-up z h).1, x.more l)))

  next-none : (parent_at nd j ≡ p → ⊥) → next_sibling nd n j ≡ none
  next-none h =
      let q = climb-less h in
      let ql = q.0 in
      let u = y.under in
      rw (ne_eqb (parent_at nd j) none q.1)
      (first-none nd (parent_at nd j) (n - suc j) (suc j)
      (λ m a b z. below_or m k (λ c. omega (arith, between m (omega arith) c))
      (λ c.
      true-false (on_path nd m (parent_at nd j))
      (subst (λ (v : ℕ). on_path nd m v ≡ true) z (parent-on x.ruled m (omega (arith, climb-in)) (λ v. q.1 (sym z ∙ v))))
      (off-on x.ruled k m (parent_at nd j) c (omega (arith, climb-in)) (omega arith) (k_off h (omega (arith, climb-in)))))))

  wrong-at : (b : Bool) → sibling_right nd n j ≡ b → b ≡ false → false ≡ each n (sibling_right nd n)
  wrong-at b e z = each-fails (sibling_right nd n) j n climb-in (e ∙ z)

  climb-end : parent_at nd j ≡ p → (b : Bool) → sibling_right nd n j ≡ b → Climbed nd n k p b
  climb-end a b e =
      record {
        right = λ z i l o h. either-bool (on_path nd j i)
            (λ w. same_or j i (λ v. subst (λ (q : ℕ). sibling_right nd n q ≡ true) v (e ∙ z))
            (λ v.
            let d = path-down nd j i v w in
            true-false (on_path nd p i) (subst (λ (q : ℕ). on_path nd q i ≡ true) a d.1) (h (λ q. (has-before nd j d.0).1 (a ∙ q)))))
            (λ w. y.done i l o w);
        wrong = wrong-at b e;
      }

  -- ---- the four ways on

  pub climb-root : parent_at nd j ≡ p → p ≡ none → Climbed nd n k p (eqb (sibling_at nd j) none)
  climb-root a z = climb-end a (eqb (sibling_at nd j) none) (rw (eq-eqb (parent_at nd j) none (a ∙ z)))

  pub climb-child : parent_at nd j ≡ p → (p ≡ none → ⊥) → {s : ℕ} → s ≡ sibling_at nd j → Climbed nd n k p (eqb s k)
  climb-child a z {s} e = climb-end a (eqb s k) (rw (next-child a z, e))

  pub climb-bad : (parent_at nd j ≡ p → ⊥) → (sibling_at nd j ≡ none → ⊥) → Climbed nd n k p false
  climb-bad h e =
      record {
        right = λ z i l o g. true-false false z refl;
        wrong = wrong-at false (ne_eqb (sibling_at nd j) (next_sibling nd n j) (λ z. e (z ∙ next-none h)));
      }

  pub climb-up : (parent_at nd j ≡ p → ⊥) → sibling_at nd j ≡ none → {up : ℕ} → up ≡ parent_at nd j → Climbing nd n k p up
  climb-up h e eu = subst (Climbing nd n k p) (sym eu)
      (record {
        next = x;
        under = omega (arith, (climb-less h).0, y.under);
        on = path-trans nd (k - 1) j (parent_at nd j) y.on (parent-on x.ruled j climb-in (climb-less h).1);
        above = λ z. above-up z h;
        done = λ i l o z. either-bool (on_path nd j i)
            (λ w. same_or j i
            (λ v. subst (λ (m : ℕ). sibling_right nd n m ≡ true) v (eq-eqb (sibling_at nd j) (next_sibling nd n j) (e ∙ sym (next-none h))))
            (λ v. true-false (on_path nd (parent_at nd j) i) (path-down nd j i v w).1 z))
            (λ w. y.done i l o w);
      })
