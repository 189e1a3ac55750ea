-- The climb that looks for an ancestor, and the rule of one parent. Assumes nothing.
use Rattle.lists.proofs.Prelude.{ℕ, ◌-◌, ◌≤◌, ◌<◌, true, false, List, ◌≡◌, sym, ◌∙◌, subst, arith, eqb, eq-eqb, ne_eqb, lt-ltb, le-ltb}
use Rattle.tables.specs.Numbers.{none}
use Rattle.tables.specs.Columns.{parent_at}
use Rattle.fit_nodes.specs.Nodes.{on_path, parent_right}
use Rattle.lists.proofs.Tests.{same_or}
use Rattle.fit_nodes.proofs.Path.{path-up, path-out, path-not, path-self, has-parent, has-none, has-late}

module _ (nd : List ℕ) (j p : ℕ) where
  pub climb-on : p < j → (parent_at nd j ≡ none → ⊥) → parent_at nd j < j → on_path nd (parent_at nd j) p ≡ on_path nd j p
  climb-on h a b = sym (path-up nd j p (λ z. omega arith) (has-parent nd j a b))

  pub climb-none : p < j → parent_at nd j ≡ none → on_path nd j p ≡ false
  climb-none h a = path-out nd j p (λ z. omega arith) (has-none nd j a)

  pub climb-late : p < j → j ≤ parent_at nd j → on_path nd j p ≡ false
  climb-late h a = path-out nd j p (λ z. omega arith) (has-late nd j a)

  pub climb-end : j ≤ p → eqb j p ≡ on_path nd j p
  climb-end h =
      same_or j p (λ e. eq-eqb j p e ∙ sym (subst (λ (z : ℕ). on_path nd j z ≡ true) e (path-self nd j)))
      (λ e. ne_eqb j p e ∙ sym (path-not nd j p (omega arith)))

pub rule-none : (nd : List ℕ) (k : ℕ) → parent_at nd k ≡ none → true ≡ parent_right nd k
rule-none nd k h = rw (eq-eqb (parent_at nd k) none h)

pub rule-zero : (nd : List ℕ) (k : ℕ) → (parent_at nd k ≡ none → ⊥) → k ≡ 0 → false ≡ parent_right nd k
rule-zero nd k h z = rw (ne_eqb (parent_at nd k) none h, le-ltb 0 k (omega arith))

pub rule-path : (nd : List ℕ) (k : ℕ) → (parent_at nd k ≡ none → ⊥) → (k ≡ 0 → ⊥) → on_path nd (k - 1) (parent_at nd k) ≡ parent_right nd k
rule-path nd k h z = rw (ne_eqb (parent_at nd k) none h, lt-ltb 0 k (omega arith))
