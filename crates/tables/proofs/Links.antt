-- The links of the nodes, by one pass from the back. Assumes nothing.
use Rattle.lists.proofs.Prelude.{◌≡◌, refl, sym, ◌∙◌, subst, List, ℕ, suc, ◌+◌, ◌-◌, ◌*◌, ◌≤◌, ◌<◌, arith, eqb, eq-eqb, ne_eqb, lt-ltb, le-ltb, length, get_or, set, length-set, get_or-set_same, get_or-set_other, pick}
use Rattle.lists.proofs.Tests.{same_or}
use Rattle.tables.specs.Numbers.{none}
use Rattle.tables.specs.Columns.{node_stride, parent_at, child_at}
use Rattle.tables.specs.LocalsLinks.{first_under_or, LinkedFrom, HasRows, LinksIs}

-- one node more: the definition's own step
least_step : (t : List ℕ) (p j n : ℕ) → j < n → first_under_or t p j (n - j) ≡ pick (eqb (parent_at t j) p) j (first_under_or t p (suc j) (n - suc j))
unfolding first_under_or
least_step t p j n h = let e : n - j ≡ suc (n - suc j) = omega arith in rw e

pub linked-none : (n : ℕ) (t : List ℕ) → LinkedFrom n t t n
unfolding first_under_or
linked-none n t =
    let z : n - n ≡ 0 = omega arith in
    record { len = refl; first = λ i h. rw z; next = λ i a b. absurd (omega arith); kept = λ i o. refl }

module _ {n : ℕ} {t₀ t : List ℕ} {j : ℕ} (p : LinkedFrom n t₀ t (suc j)) (hj : j < n) (r : n * node_stride ≤ length t₀) where
  is-parent : parent_at t₀ j ≡ get_or t (j * node_stride) 0
  is-parent = sym (p.kept (j * node_stride) (λ i h. ((λ e. omega arith), (λ e. omega arith))))

  module _ (q : ℕ) (e : parent_at t₀ j ≡ q) where
    -- the first child of i, where it is not q
    first-other : (i : ℕ) → (i ≡ q → ⊥) → first_under_or t₀ i j (n - j) ≡ first_under_or t₀ i (suc j) (n - suc j)
    first-other i h = least_step t₀ i j n hj ∙ rw (ne_eqb (parent_at t₀ j) i (λ z. h (sym z ∙ e)))

    first-same : first_under_or t₀ q j (n - j) ≡ j
    first-same = least_step t₀ q j n hj ∙ rw (eq-eqb (parent_at t₀ j) q e)

    linked-child : q < n → LinkedFrom n t₀ (set (set t (j * node_stride + 2) (child_at t q)) (q * node_stride + 1) j) j
    linked-child hq =
        let l = p.len in
        let v : ℕ = child_at t q in
        let t1 : List ℕ = set t (j * node_stride + 2) (child_at t q) in
        let l1 : length (set t (j * node_stride + 2) (child_at t q)) ≡ length t₀ = length-set t (j * node_stride + 2) (child_at t q) ∙ p.len in
        record {
          len = length-set (set t (j * node_stride + 2) (child_at t q)) (q * node_stride + 1) j ∙ l1;
          first = λ i h.
              same_or i q
              (λ z. rw z (get_or-set_same t1 (q * node_stride + 1) j 0 (omega arith) ∙ sym first-same))
              (λ z.
              get_or-set_other t1 (q * node_stride + 1) (i * node_stride + 1) j 0 (λ w. z (omega arith))
              ∙ get_or-set_other t (j * node_stride + 2) (i * node_stride + 1) v 0 (λ w. omega arith)
              ∙ p.first i h
              ∙ sym (first-other i z));
          next = λ i a b.
              get_or-set_other t1 (q * node_stride + 1) (i * node_stride + 2) j 0 (λ w. omega arith)
              ∙ same_or i j
              (λ z. rw z (get_or-set_same t (j * node_stride + 2) v 0 (omega arith) ∙ p.first q hq ∙ sym (rw (e, lt-ltb q n hq))))
              (λ z. get_or-set_other t (j * node_stride + 2) (i * node_stride + 2) v 0 (λ w. z (omega arith)) ∙ p.next i (omega arith) b);
          kept = λ i o. get_or-set_other t1 (q * node_stride + 1) i j 0 (o q hq).0 ∙ get_or-set_other t (j * node_stride + 2) i v 0 (o j hj).1 ∙ p.kept i o;
        }

    linked-root : n ≤ q → LinkedFrom n t₀ (set t (j * node_stride + 2) none) j
    linked-root hq =
        let l = p.len in
        record {
          len = length-set t (j * node_stride + 2) none ∙ p.len;
          first = λ i h. get_or-set_other t (j * node_stride + 2) (i * node_stride + 1) none 0 (λ w. omega arith) ∙ p.first i h ∙ sym (first-other i (λ z. omega arith));
          next = λ i a b.
              same_or i j
              (λ z. rw z (get_or-set_same t (j * node_stride + 2) none 0 (omega arith) ∙ sym (rw (e, le-ltb q n hq))))
              (λ z. get_or-set_other t (j * node_stride + 2) (i * node_stride + 2) none 0 (λ w. z (omega arith)) ∙ p.next i (omega arith) b);
          kept = λ i o. get_or-set_other t (j * node_stride + 2) i none 0 (o j hj).1 ∙ p.kept i o;
        }

-- a turn, from k to k - 1
module _ {n : ℕ} {t₀ t : List ℕ} {k : ℕ} (p : LinkedFrom n t₀ t k) (hk : 0 < k) (kn : k ≤ n) (r : n * node_stride ≤ length t₀) where
  down : LinkedFrom n t₀ t (suc (k - 1))
  down = let e : suc (k - 1) ≡ k = omega arith in rw e p

  pub link-child : get_or t ((k - 1) * node_stride) 0 < n
      → LinkedFrom n t₀ (set (set t ((k - 1) * node_stride + 2) (child_at t (get_or t ((k - 1) * node_stride) 0))) (get_or t ((k - 1) * node_stride) 0 * node_stride + 1) (k - 1)) (k - 1)
  link-child h = linked-child down (omega arith) r (get_or t ((k - 1) * node_stride) 0) (is-parent down (omega arith) r) h

  pub link-root : n ≤ get_or t ((k - 1) * node_stride) 0 → LinkedFrom n t₀ (set t ((k - 1) * node_stride + 2) none) (k - 1)
  link-root h = linked-root down (omega arith) r (get_or t ((k - 1) * node_stride) 0) (is-parent down (omega arith) r) h

pub links-all : {n : ℕ} {t₀ t : List ℕ} {k : ℕ} → LinkedFrom n t₀ t k → k ≤ 0 → HasRows n t₀ → LinksIs n t₀ t
links-all {n} {t₀} {t} {k} p h g =
    let e : k ≡ 0 = omega arith in
    record { made = λ _. subst (λ (m : ℕ). LinkedFrom n t₀ t m) e p; left = λ f. absurd (f g) }

pub links-none : (n : ℕ) (t : List ℕ) → (HasRows n t → ⊥) → LinksIs n t t
links-none n t h = record { made = λ g. absurd (h g); left = λ _. refl }
