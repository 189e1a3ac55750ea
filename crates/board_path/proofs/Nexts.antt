-- Where the links are right, the next node on the way is the child on the path. Assumes nothing.
use Rattle.lists.proofs.Prelude.{ℕ, zero, suc, ◌+◌, ◌-◌, ◌/◌, ◌≤◌, ◌<◌, Bool, true, false, true≢false, ◌⊎◌, inl, inr, ⊎_elim, ◌≡◌, refl, sym, ap, ◌∙◌, subst, List, length, eqb, ltb, pick, arith, eqb-true, eqb-false, ne_eqb, lt-ltb, ltb-true, ltb-false}
use Rattle.lists.proofs.Tests.{same_or}
use Rattle.tables.specs.Numbers.{none}
use Rattle.tables.specs.Columns.{node_stride, parent_at, child_at, sibling_at}
use Rattle.tables.specs.Each.{each}
use Rattle.tables.proofs.Each.{each_at}
use Rattle.fit_nodes.specs.Locals.{Ruled}
use Rattle.fit_nodes.specs.Nodes.{on_path, first_under, child_right, sibling_right, next_sibling}
use Rattle.fit_nodes.proofs.Path.{has-before, path-self, path-up, path-down, path-le}
use Rattle.fit_nodes.proofs.Rule.{on-between}
use Rattle.board_path.specs.LocalsNext.{follows, Along, stays, goes, NextIs}
use Rattle.board_path.proofs.Links.{follows-made, follows_is}

-- a node whose parent is p, from k on and not behind b
pub record Under (nd : List ℕ) (p k b r : ℕ) : Type 0 where
  pub parent : parent_at nd r ≡ p
  pub least : k ≤ r
  pub most : r ≤ b

pub first_found : (nd : List ℕ) (p m k b : ℕ) → k ≤ b → b < k + m → parent_at nd b ≡ p → Under nd p k b (first_under nd p k m)
unfolding first_under
first_found nd p zero k b l u e = absurd (omega arith)
first_found nd p (suc m) k b l u e = go (eqb (parent_at nd k) p) refl (λ v. first_found nd p m (suc k) b v (omega arith) e)
  where
    go : (t : Bool) → eqb (parent_at nd k) p ≡ t → (suc k ≤ b → Under nd p (suc k) b (first_under nd p (suc k) m))
        → Under nd p k b (pick t k (first_under nd p (suc k) m))
    go true f rest = record { parent = eqb-true (parent_at nd k) p f; least = omega arith; most = l }
    go false f rest =
        let d : k ≡ b → ⊥ = λ z. eqb-false (parent_at nd k) p f (ap (parent_at nd) z ∙ e) in
        let x = rest (same_or k b (λ z. absurd (d z)) (λ z. omega arith)) in
        record { parent = x.parent; least = let a = x.least in omega arith; most = x.most }

pub first_any : (nd : List ℕ) (p m k : ℕ) → (first_under nd p k m ≡ none) ⊎ (parent_at nd (first_under nd p k m) ≡ p)
unfolding first_under
first_any nd p zero k = inl refl
first_any nd p (suc m) k = go (eqb (parent_at nd k) p) refl (first_any nd p m (suc k))
  where
    go : (t : Bool) → eqb (parent_at nd k) p ≡ t → (first_under nd p (suc k) m ≡ none) ⊎ (parent_at nd (first_under nd p (suc k) m) ≡ p)
        → (pick t k (first_under nd p (suc k) m) ≡ none) ⊎ (parent_at nd (pick t k (first_under nd p (suc k) m)) ≡ p)
    go true f rest = inr (eqb-true (parent_at nd k) p f)
    go false f rest = rest

-- the child of a node on the way to k
pub record OnChild (nd : List ℕ) (at k : ℕ) : Type 0 where
  pub child : ℕ
  pub parent : parent_at nd child ≡ at
  pub on : on_path nd k child ≡ true
  pub later : at < child
  pub known : at ≡ none → ⊥

up_one : (nd : List ℕ) (k at : ℕ) → on_path nd k at ≡ true → (k ≡ at → ⊥) → ((parent_at nd k ≡ at → ⊥) → parent_at nd k < k → on_path nd (parent_at nd k) at ≡ true → OnChild nd at (parent_at nd k))
    → OnChild nd at k
up_one nd k at o d rest =
    let x = path-down nd k at d o in
    let b = has-before nd k x.0 in
    let q = b.0 in
    same_or (parent_at nd k) at
    (λ e. record { child = k; parent = e; on = path-self nd k; later = subst (λ (z : ℕ). z < k) e b.0; known = λ z. b.1 (e ∙ z) })
    (λ e.
    let y = rest e b.0 x.1 in
    let c = path-le nd (parent_at nd k) y.child y.on in
    record {
      child = y.child;
      parent = y.parent;
      on = path-up nd k y.child (λ z. omega arith) x.0 ∙ y.on;
      later = y.later;
      known = y.known;
    })

pub child-on : (nd : List ℕ) (f k at : ℕ) → k ≤ f → on_path nd k at ≡ true → (k ≡ at → ⊥) → OnChild nd at k
child-on nd zero k at l o d = up_one nd k at o d (λ e b p. absurd (omega arith))
child-on nd (suc f) k at l o d = up_one nd k at o d (λ e b p. child-on nd f (parent_at nd k) at (omega arith) p e)

sides : (r b : ℕ) → (r ≡ b → ⊥) → (r < b) ⊎ (b < r)
sides r b e = split (ltb r b) refl
  where
    split : (t : Bool) → ltb r b ≡ t → (r < b) ⊎ (b < r)
    split true f = inl (ltb-true r b f)
    split false f = let l = ltb-false r b f in inr (omega arith)

-- links are right
pub record Linked (nd : List ℕ) (n : ℕ) : Type 0 where
  pub ruled : Ruled nd n
  pub rows : n ≤ length nd / node_stride
  pub children : each n (child_right nd n) ≡ true
  pub siblings : each n (sibling_right nd n) ≡ true

module _ {nd : List ℕ} {n : ℕ} (x : Linked nd n) (at k : ℕ) (inside : k < n) (known : at ≡ none → ⊥) where
  sibling-is : (c : ℕ) → c < n → parent_at nd c ≡ at → sibling_at nd c ≡ first_under nd at (suc c) (n - suc c)
  sibling-is c l e =
      let p : parent_at nd c ≡ none → ⊥ = λ z. known (sym e ∙ z) in
      eqb-true (sibling_at nd c) (next_sibling nd n c) (each_at (sibling_right nd n) n c x.siblings l)
      ∙ (ap (λ (t : Bool). pick t none (first_under nd (parent_at nd c) (suc c) (n - suc c))) (ne_eqb (parent_at nd c) none p)
      ∙ ap (λ (z : ℕ). first_under nd z (suc c) (n - suc c)) e)

  -- the last child that is not behind k
  record Last (c r : ℕ) : Type 0 where
    pub parent : parent_at nd r ≡ at
    pub within : r ≤ k
    pub ended : follows nd k r ≡ false

  along-last : {c r : ℕ} → Along nd k c r → c ≤ k → parent_at nd c ≡ at → Last c r
  along-last (stays e) l p = record { parent = p; within = l; ended = e }
  along-last (goes {c = c} {r = r} e y) l p =
      let f = follows_is nd k c e in
      let s = sibling-is c (omega arith) p in
      let m = x.ruled.most in
      let b = f.1 in
      let q : parent_at nd (sibling_at nd c) ≡ at =
      ⊎_elim (λ (z : first_under nd at (suc c) (n - suc c) ≡ none). absurd (omega (arith, s ∙ z)))
      (λ (z : parent_at nd (first_under nd at (suc c) (n - suc c)) ≡ at). ap (parent_at nd) s ∙ z) (first_any nd at (n - suc c) (suc c)) in
      let w = along-last y b q in
      record { parent = w.parent; within = w.within; ended = w.ended }

  -- no child comes between it and k
  none_between : (r b : ℕ) → parent_at nd r ≡ at → r < b → b ≤ k → parent_at nd b ≡ at → follows nd k r ≡ true
  none_between r b p l m q =
      let s = sibling-is r (omega arith) p in
      let u = first_found nd at (n - suc r) (suc r) b l (omega arith) q in
      let low : suc r ≤ sibling_at nd r = subst (λ (z : ℕ). suc r ≤ z) (sym s) u.least in
      let high : sibling_at nd r ≤ b = subst (λ (z : ℕ). z ≤ b) (sym s) u.most in
      let t = x.rows in
      follows-made nd k r low (omega arith) (omega arith)

  -- the node after `at` on the way to k is its child, and on the path of k
  pub next_way : (r : ℕ) → on_path nd k at ≡ true → (k ≡ at → ⊥) → NextIs nd at k r → (parent_at nd r ≡ at) × (on_path nd k r ≡ true)
  next_way r o d y =
      let b = child-on nd k k at (omega arith) o d in
      let le = path-le nd k b.child b.on in
      let la = b.later in
      let t = x.rows in
      let c : child_at nd at ≡ first_under nd at 0 n =
      eqb-true (child_at nd at) (first_under nd at 0 n) (each_at (child_right nd n) n at x.children (omega arith)) in
      let u = first_found nd at n 0 b.child (omega arith) (omega arith) b.parent in
      let high : child_at nd at ≤ b.child = subst (λ (z : ℕ). z ≤ b.child) (sym c) u.most in
      let first : parent_at nd (child_at nd at) ≡ at = ap (parent_at nd) c ∙ u.parent in
      let w = along-last (y.child (rw (lt-ltb at (length nd / node_stride) (omega arith), lt-ltb (child_at nd at) (length nd / node_stride) (omega arith)))) (omega arith) first in
      same_or r b.child (λ e. (w.parent, subst (λ (z : ℕ). on_path nd k z ≡ true) (sym e) b.on))
      (λ e. absurd (meet b.child b.parent b.on le la w e))
    where
      meet : (b : ℕ) → parent_at nd b ≡ at → on_path nd k b ≡ true → b ≤ k → at < b → Last (child_at nd at) r → (r ≡ b → ⊥) → ⊥
      meet b p q le la w e =
          ⊎_elim
          (λ (l : r < b). true≢false (sym (none_between r b w.parent l le p) ∙ w.ended))
          (λ (l : b < r).
          let s = w.within in
          let z = path-down nd r b e (on-between x.ruled r k b s inside (omega arith) q) in
          let v = path-le nd (parent_at nd r) b z.1 in
          let f = w.parent in
          omega arith)
          (sides r b e)
