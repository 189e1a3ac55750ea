-- No second answer.
use Rattle.std.specs.Prelude.{◌≡◌}

-- at most one value meets P
abbrev pub Once {ℓ} : {A : Type ℓ} → (A → Type 0) → Type ℓ
Once {A = A} P = (a b : A) → P a → P b → a ≡ b
