-- What the steps of reading a simple value promise each other.
use Rattle.std.specs.Prelude.{◌∷◌}
use Rattle.lists.specs.Prelude.{ℕ, List, []}

-- the only byte of a read value; 256 where it has none, or several
abbrev pub only_byte : List ℕ → ℕ
only_byte [] = 256
only_byte (b ∷ []) = b
only_byte (b ∷ c ∷ r) = 256
