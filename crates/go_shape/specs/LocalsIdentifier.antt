-- The letters of a read identifier, one at a time.
use Rattle.std.specs.Prelude.{◌≡◌, ◌∷◌, Option, Some, None}
use Rattle.lists.specs.Prelude.{ℕ, List, [], drop}
use Rattle.values.specs.Read.{read_identifier}

-- what reading at a place of the raw identifier gives: the first letter from there on and the place after it, or the end
abbrev pub Letters : List ℕ → ℕ → Option (ℕ × ℕ) → Type 0
Letters s at (Some (b, n)) = read_identifier (drop at s) ≡ b ∷ read_identifier (drop n s)
Letters s at None = read_identifier (drop at s) ≡ []
