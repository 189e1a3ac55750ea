-- Tests and values over a run of numbers.
use Rattle.std.specs.Prelude.{◌+◌, ◌&&◌, ◌∷◌}
use Rattle.lists.specs.Prelude.{ℕ, zero, suc, Bool, true, List, []}

-- each number below n passes
unfoldable pub each : ℕ → (ℕ → Bool) → Bool
each zero f = true
each (suc n) f = each n f && f n

-- the sum over the numbers below n
unfoldable pub sum : (ℕ → ℕ) → ℕ → ℕ
sum f zero = 0
sum f (suc n) = sum f n + f n

-- the values at the m numbers from k on
unfoldable pub tabulate : {A : Type 0} → (ℕ → A) → (k m : ℕ) → List A
tabulate f k zero = []
tabulate f k (suc m) = f k ∷ tabulate f (suc k) m
