-- The values of a property, one at a time: where they end. Assumes nothing.
use Rattle.lists.proofs.Prelude.{ℕ, zero, suc, ◌≤◌, ◌<◌, ◌-◌, ◌≡◌, refl, sym, ap, ◌∙◌, List, arith, length}
use Rattle.lists.specs.Run.{more}
use Rattle.lists.proofs.Run.{run_more, run-done}
use Rattle.lexer_scan.specs.Scan.{on_value, value_step_at, values_end_at}
use Rattle.lexer_scan.proofs.Bounds.{value-is}
use Rattle.lists.proofs.Tests.{never}
use Rattle.lexer_scan.specs.declared.ValueStep.{ValueStep}
use Rattle.lexer_scan.specs.declared.ValueStep.TheVariants.{Value, NoMore, Unclosed}
use Rattle.std.specs.Prelude.{Some, None}

module _ (s : List ℕ) where
  -- what is left of the text: it falls with each value
  left : ℕ → ℕ
  left i = length s - i

  falls : (x y : ℕ) → on_value x (value_step_at s x) ≡ more y → left y < left x
  unfolding left
  falls x y e = go (value_step_at s x) refl e
    where
      go : (v : ValueStep) → value_step_at s x ≡ v → on_value x v ≡ more y → length s - y < length s - x
      go (Value a b n) q e = let z : n ≡ y = cc in let i = value-is s x a b n q in omega arith
      go NoMore q e = never (cc)
      go Unclosed q e = never (cc)

  pub values-more : (k a e n : ℕ) → value_step_at s k ≡ Value a e n → values_end_at s k ≡ values_end_at s n
  unfolding values_end_at left
  values-more k a e n q = run_more (λ (i : ℕ). on_value i (value_step_at s i)) None left falls (suc (length s)) k n (omega arith) (ap (on_value k) q)

  pub values-unclosed : (k : ℕ) → value_step_at s k ≡ Unclosed → values_end_at s k ≡ None
  unfolding values_end_at
  values-unclosed k q = run-done (λ (i : ℕ). on_value i (value_step_at s i)) None (suc (length s)) k None (omega arith) (ap (on_value k) q)

  pub values-none : (k : ℕ) → value_step_at s k ≡ NoMore → values_end_at s k ≡ Some k
  unfolding values_end_at
  values-none k q = run-done (λ (i : ℕ). on_value i (value_step_at s i)) None (suc (length s)) k (Some k) (omega arith) (ap (on_value k) q)

  -- the values end in the text, and no earlier than they start
  values-from : (f k e : ℕ) → length s - k < f → values_end_at s k ≡ Some e → (k ≤ e) × (k ≤ length s → e ≤ length s)
  values-from zero k e h q = absurd (omega arith)
  values-from (suc f) k e h q = go (value_step_at s k) refl (values-from f)
    where
      go : (v : ValueStep) → value_step_at s k ≡ v → ((x g : ℕ) → length s - x < f → values_end_at s x ≡ Some g → (x ≤ g) × (x ≤ length s → g ≤ length s)) → (k ≤ e) × (k ≤ length s → e ≤ length s)
      go (Value a b n) r ih =
          let i = value-is s k a b n r in
          let j = ih n e (omega arith) (sym (values-more k a b n r) ∙ q) in
          (omega arith, λ l. j.1 (omega arith))
      go NoMore r ih = let y : Some k ≡ Some e = sym (values-none k r) ∙ q in let x : k ≡ e = cc in (omega arith, λ l. omega arith)
      go Unclosed r ih = let z : Some e ≡ None = sym q ∙ values-unclosed k r in never (cc)

  pub values-bounds : (k e : ℕ) → values_end_at s k ≡ Some e → (k ≤ e) × (k ≤ length s → e ≤ length s)
  values-bounds k e q = values-from (suc (length s)) k e (omega arith) q

  -- and later, where one opens
  pub values-forward : (k e : ℕ) → (value_step_at s k ≡ NoMore → ⊥) → values_end_at s k ≡ Some e → k < e
  values-forward k e o q = go (value_step_at s k) refl
    where
      go : (v : ValueStep) → value_step_at s k ≡ v → k < e
      go (Value a b n) r = let i = value-is s k a b n r in let j = values-bounds n e (sym (values-more k a b n r) ∙ q) in omega arith
      go NoMore r = absurd (o r)
      go Unclosed r = let z : Some e ≡ None = sym q ∙ values-unclosed k r in never (cc)
