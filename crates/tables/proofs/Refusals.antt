-- The reason and the place of a refusal. Assumes nothing.
use Rattle.lists.proofs.Prelude.{ℕ, ◌≡◌, ap}
use Rattle.std.specs.Prelude.{Option, Some, Result, Err}
use Rattle.tables.specs.declared.Refusal.{Refusal}
use Rattle.tables.specs.Refusals.{refusal}

module _ {R : Type 0} {r x : R} {p q : ℕ} where
  pub same-refusal : refusal r p ≡ refusal x q → (r ≡ x) × (p ≡ q)
  same-refusal h = (ap (λ (z : Refusal R). z.reason) h, ap (λ (z : Refusal R). z.place) h)

  pub err-refusal : {A : Type 0} → ◌≡◌ {A = Result A (Refusal R)} (Err (refusal r p)) (Err (refusal x q)) → (r ≡ x) × (p ≡ q)
  err-refusal h = let e : refusal r p ≡ refusal x q = cc in same-refusal e

  pub some-refusal : Some (refusal r p) ≡ Some (refusal x q) → (r ≡ x) × (p ≡ q)
  some-refusal h = let e : refusal r p ≡ refusal x q = cc in same-refusal e
