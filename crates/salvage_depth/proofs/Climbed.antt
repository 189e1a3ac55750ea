-- The climb over brackets, and how many are open at a node of rows whose parents are right: its own and those above it. Assumes nothing.
use Rattle.lists.proofs.Prelude.{ℕ, zero, suc, ◌+◌, ◌-◌, ◌≤◌, ◌<◌, true, List, ◌≡◌, sym, ap, ◌∙◌, subst, arith, eq-eqb, ne_eqb, lt-ltb, le-ltb}
use Rattle.lists.proofs.Tests.{same_or}
use Rattle.tables.specs.Numbers.{none}
use Rattle.tables.specs.Columns.{parent_at}
use Rattle.tables.proofs.Cases.{below_or}
use Rattle.fit_nodes.specs.Locals.{Ruled}
use Rattle.fit_nodes.specs.Nodes.{on_path}
use Rattle.fit_nodes.proofs.Path.{has-before, path-down, path-le}
use Rattle.fit_nodes.proofs.Rule.{rule-at}
use Rattle.salvage_depth.specs.LocalsDepth.{bracket_at, shut_below, open_at}

module _ (nd : List ℕ) where
  pub shut-met : (f j p : ℕ) → j ≡ p → shut_below nd f j p ≡ 0
  unfolding shut_below
  shut-met zero j p e = rw (eq-eqb j p e)
  shut-met (suc f) j p e = rw (eq-eqb j p e)

  pub shut-last : (f j p : ℕ) → (j ≡ p → ⊥) → j ≤ parent_at nd j → shut_below nd f j p ≡ bracket_at nd j
  unfolding shut_below
  shut-last zero j p h l = rw (ne_eqb j p h)
  shut-last (suc f) j p h l = rw (ne_eqb j p h, le-ltb (parent_at nd j) j l) (omega arith)

  pub shut-more : (f j p : ℕ) → (j ≡ p → ⊥) → parent_at nd j < j → j ≤ f → shut_below nd f j p ≡ bracket_at nd j + shut_below nd (f - 1) (parent_at nd j) p
  unfolding shut_below
  shut-more zero j p h l b = absurd (omega arith)
  shut-more (suc f) j p h l b = let z : suc f - 1 ≡ f = omega arith in rw (z, ne_eqb j p h, lt-ltb (parent_at nd j) j l)

  -- enough is enough
  shut-fuel : (f g j p : ℕ) → j ≤ f → j ≤ g → shut_below nd f j p ≡ shut_below nd g j p
  shut-fuel zero g j p a b =
      same_or j p (λ e. shut-met zero j p e ∙ sym (shut-met g j p e)) (λ e. shut-last zero j p e (omega arith) ∙ sym (shut-last g j p e (omega arith)))
  shut-fuel (suc f) g j p a b =
      same_or j p (λ e. shut-met (suc f) j p e ∙ sym (shut-met g j p e))
      (λ e. below_or (parent_at nd j) j
      (λ l.
      let z : suc f - 1 ≡ f = omega arith in
      shut-more (suc f) j p e l a
      ∙ ap (λ (k : ℕ). bracket_at nd j + shut_below nd k (parent_at nd j) p) z
      ∙ ap (λ (k : ℕ). bracket_at nd j + k) (shut-fuel f (g - 1) (parent_at nd j) p (omega arith) (omega arith))
      ∙ sym (shut-more g j p e l b))
      (λ l. shut-last (suc f) j p e l ∙ sym (shut-last g j p e l)))

  -- up to p, and from p up to the root
  shut-split : (h f g j p : ℕ) → j ≤ h → j ≤ f → p ≤ g → j < none → on_path nd j p ≡ true → shut_below nd f j p + shut_below nd g p none ≡ shut_below nd h j none
  shut-split zero f g j p a b c u o =
      same_or j p
      (λ e. omega (arith, shut-met f j p e, shut-fuel g zero j none (omega arith) a, ap (λ (k : ℕ). shut_below nd g k none) e))
      (λ e. absurd (omega (arith, (has-before nd j (path-down nd j p e o).0).0)))
  shut-split (suc h) f g j p a b c u o =
      same_or j p
      (λ e. omega (arith, shut-met f j p e, shut-fuel g (suc h) j none (omega arith) a, ap (λ (k : ℕ). shut_below nd g k none) e))
      (λ e.
      let d = path-down nd j p e o in
      let l = (has-before nd j d.0).0 in
      let z : suc h - 1 ≡ h = omega arith in
      let x = shut-more f j p e l b in
      let y : shut_below nd (suc h) j none ≡ bracket_at nd j + shut_below nd h (parent_at nd j) none = shut-more (suc h) j none (λ k. omega arith) l a ∙ ap (λ (k : ℕ). bracket_at nd j + shut_below nd k (parent_at nd j) none) z in
      let i = shut-split h (f - 1) g (parent_at nd j) p (omega arith) (omega arith) c (omega arith) d.1 in
      omega arith)

-- at a node of rows with right parents, all brackets up to the root are open
pub open_is : {nd : List ℕ} {n : ℕ} → Ruled nd n → (k : ℕ) → k < n → open_at nd k ≡ shut_below nd k k none
unfolding open_at
open_is {nd} ruled zero l = sym (shut-last nd 0 0 none (λ e. omega arith) (omega arith))
open_is {nd} {n} ruled (suc k) l =
    let w = ruled.most in
    let i = open_is ruled k (omega arith) in
    let p : ℕ = parent_at nd (suc k) in
    same_or p none
    (λ e.
    let x = shut-last nd (suc k) (suc k) none (λ z. omega arith) (omega arith) in
    let y : shut_below nd k k p ≡ shut_below nd k k none = ap (shut_below nd k k) e in
    omega arith)
    (λ e.
    let r = (rule-at ruled (suc k) l e).1 in
    let s : suc k - 1 ≡ k = omega arith in
    let o : on_path nd k p ≡ true = subst (λ (z : ℕ). on_path nd z p ≡ true) s r in
    let b = path-le nd k p o in
    let x = shut-split nd k k k k p (omega arith) (omega arith) b (omega arith) o in
    let y : shut_below nd (suc k) (suc k) none ≡ bracket_at nd (suc k) + shut_below nd k p none = shut-more nd (suc k) (suc k) none (λ z. omega arith) (omega arith) (omega arith) ∙ ap (λ (z : ℕ). bracket_at nd (suc k) + shut_below nd z p none) s in
    omega arith)
