-- The numbers of a block and of a close: each exactly where it is due, and no other.
use Rattle.std.specs.Prelude.{◌≤◌, ◌<◌, ◌≡◌, ◌⊎◌, ◌↔◌}
use Rattle.lists.specs.Prelude.{ℕ, List, length}
use Rattle.blocks_laws.specs.Reading.{TokenReading, tokens_read, not_read}

-- a block: 0 exactly where nothing was closed, 20 exactly after a close
pub record BlockNumbered (closed number : ℕ) : Type 0 where
  pub zero : (number ≡ 0) ↔ (closed ≡ 0)
  pub late : (number ≡ 20) ↔ (closed ≡ 0 → ⊥)
  pub no_other : (number ≡ 0) ⊎ (number ≡ 20)

-- a first close: 0 exactly where the reading has rows and they are lent, 14 exactly where they are not, 1 to 5 with their place exactly where it is refused so
pub record CloseNumbered (x : TokenReading) (lent number place : ℕ) : Type 0 where
  pub zero : (number ≡ 0) ↔ ((rs : List (List ℕ)) × (x ≡ tokens_read rs) × (length rs ≤ lent))
  pub short : (number ≡ 14) ↔ ((rs : List (List ℕ)) × (x ≡ tokens_read rs) × (lent < length rs))
  pub each : (n : ℕ) → 0 < n → n ≤ 5 → (number ≡ n) ↔ ((p : ℕ) × (x ≡ not_read n p) × (place ≡ p))
  pub no_other : (number ≡ 0) ⊎ (number ≡ 14) ⊎ ((0 < number) × (number ≤ 5))
