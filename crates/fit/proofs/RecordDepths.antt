-- Depths as the parents say, and depths that fit: the same, where the parents fit. Assumes nothing.
use Rattle.lists.proofs.Prelude.{ℕ, zero, suc, ◌≤◌, ◌<◌, true, List, ◌≡◌, sym, ap, ◌∙◌, arith, eqb, eq-eqb, ne_eqb, eqb-true, length, get_or, pick}
use Rattle.tables.specs.Numbers.{none}
use Rattle.tables.specs.Rows.{depths}
use Rattle.tables.specs.Columns.{parent_at, depth_at}
use Rattle.tables.specs.Each.{each}
use Rattle.fit_nodes.specs.Locals.{Ruled}
use Rattle.fit_nodes.specs.Nodes.{depth_right}
use Rattle.lists.proofs.Tests.{same_or}
use Rattle.tables.proofs.Depths.{depths-root, depths-child}
use Rattle.tables.proofs.Each.{each_all, each_at}
use Rattle.fit_nodes.proofs.Rule.{rule-before}

-- the parents of the n nodes are qs
module _ {nd : List ℕ} {n : ℕ} (ruled : Ruled nd n) (qs : List ℕ) (len : length qs ≡ n) (told : (i : ℕ) → i < n → parent_at nd i ≡ get_or qs i 0) where
  -- what the rule asks for node k
  abbrev asked : ℕ → ℕ
  asked k = pick (eqb (parent_at nd k) none) 0 (suc (depth_at nd (parent_at nd k)))

  -- where the parent's depth is as the parents say, what is asked for k is
  asked_is : (k : ℕ) → k < n → (parent_at nd k < k → depth_at nd (parent_at nd k) ≡ get_or (depths qs) (parent_at nd k) 0) → asked k ≡ get_or (depths qs) k 0
  asked_is k l up =
      same_or (parent_at nd k) none
      (λ e. rw (eq-eqb (parent_at nd k) none e) (sym (depths-root qs k (omega arith) (omega (arith, told k l, ruled.most)))))
      (λ e.
      let b = rule-before ruled k l e in
      rw (ne_eqb (parent_at nd k) none e) (ap suc (up b ∙ ap (λ (z : ℕ). get_or (depths qs) z 0) (told k l)) ∙ sym (depths-child qs k (omega arith) (omega (arith, told k l)))))

  pub depths-right : ((i : ℕ) → i < n → depth_at nd i ≡ get_or (depths qs) i 0) → each n (depth_right nd) ≡ true
  depths-right is = each_all (depth_right nd) n (λ k l. eq-eqb (depth_at nd k) (asked k) (is k l ∙ sym (asked_is k l (λ b. is (parent_at nd k) (omega arith)))))

  depths-under : each n (depth_right nd) ≡ true → (m k : ℕ) → k < m → m ≤ n → depth_at nd k ≡ get_or (depths qs) k 0
  depths-under h zero k a b = absurd (omega arith)
  depths-under h (suc m) k a b =
      eqb-true (depth_at nd k) (asked k) (each_at (depth_right nd) n k h (omega arith)) ∙ asked_is k (omega arith) (λ l. depths-under h m (parent_at nd k) (omega arith) (omega arith))

  pub depths-are : each n (depth_right nd) ≡ true → (k : ℕ) → k < n → depth_at nd k ≡ get_or (depths qs) k 0
  depths-are h k l = depths-under h n k l (omega arith)
