-- The values of a property, one at a time: which they are. Assumes nothing.
use Rattle.lists.proofs.Prelude.{ℕ, zero, suc, ◌+◌, ◌≤◌, ◌<◌, ◌-◌, ◌≡◌, refl, sym, ap, ◌∙◌, List, [], ◌∷◌, arith, length, slice}
use Rattle.lexer.specs.Token.{Val}
use Rattle.lexer_scan.specs.Scan.{value_step_at, values_end_at}
use Rattle.lexer.specs.Step.{vals_on, vals_by, vals_at}
use Rattle.lexer_scan.proofs.Bounds.{value-is}
use Rattle.lists.proofs.Tests.{never}
use Rattle.lexer_scan.proofs.Values.{values-more, values-unclosed, values-none}
use Rattle.lexer_scan.specs.declared.ValueStep.{ValueStep}
use Rattle.lexer_scan.specs.declared.ValueStep.TheVariants.{Value, NoMore, Unclosed}
use Rattle.std.specs.Prelude.{Some, None}

module _ (s : List ℕ) where
  vals-fuel : (f g k : ℕ) → length s - k < f → length s - k < g → vals_by f s k ≡ vals_by g s k
  unfolding vals_by
  vals-fuel zero g k p q = absurd (omega arith)
  vals-fuel (suc f) zero k p q = absurd (omega arith)
  vals-fuel (suc f) (suc g) k p q = go (value_step_at s k) refl (vals-fuel f g)
    where
      go : (v : ValueStep) → value_step_at s k ≡ v → ((x : ℕ) → length s - x < f → length s - x < g → vals_by f s x ≡ vals_by g s x)
          → vals_on (vals_by f s) s v ≡ vals_on (vals_by g s) s v
      go (Value a e n) h ih =
          let i = value-is s k a e n h in
          ap (λ (z : List Val). record { from = a; to = e; raw = slice a e s } ∷ z) (ih n (omega arith) (omega arith))
      go NoMore h ih = refl
      go Unclosed h ih = refl

  pub vals-more : (k a e n : ℕ) → value_step_at s k ≡ Value a e n → vals_at s k ≡ record { from = a; to = e; raw = slice a e s } ∷ vals_at s n
  unfolding vals_at vals_by
  vals-more k a e n q =
      let i = value-is s k a e n q in
      ap (vals_on (vals_by (length s) s) s) q
      ∙ ap (λ (z : List Val). record { from = a; to = e; raw = slice a e s } ∷ z) (vals-fuel (length s) (suc (length s)) n (omega arith) (omega arith))

  pub vals-none : (k : ℕ) → value_step_at s k ≡ NoMore → vals_at s k ≡ []
  unfolding vals_at vals_by
  vals-none k q = ap (vals_on (vals_by (length s) s) s) q

  -- the values take no more bytes than they have
  pub vals-count : (n k e : ℕ) → length s - k < n → values_end_at s k ≡ Some e → k + length (vals_at s k) ≤ e
  vals-count zero k e h q = absurd (omega arith)
  vals-count (suc n) k e h q = go (value_step_at s k) refl (vals-count n)
    where
      go : (v : ValueStep) → value_step_at s k ≡ v → ((x g : ℕ) → length s - x < n → values_end_at s x ≡ Some g → x + length (vals_at s x) ≤ g) → k + length (vals_at s k) ≤ e
      go (Value a b x) r ih =
          let i = value-is s k a b x r in
          let j = ih x e (omega arith) (sym (values-more s k a b x r) ∙ q) in
          let l = ap length (vals-more k a b x r) in
          omega arith
      go NoMore r ih = let y : Some k ≡ Some e = sym (values-none s k r) ∙ q in let x : k ≡ e = cc in let l = ap length (vals-none k r) in omega arith
      go Unclosed r ih = let z : Some e ≡ None = sym q ∙ values-unclosed s k r in never (cc)
