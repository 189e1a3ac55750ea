-- Plain text as a raw value.
use Rattle.std.specs.Prelude.{◌||◌, ◌∷◌, ◌++◌}
use Rattle.lists.specs.Prelude.{ℕ, List, [], eqb, pick}

-- a backslash stands before a backslash and before `]`, every other byte as it is
abbrev pub escaped_byte : ℕ → List ℕ
escaped_byte b = pick (eqb b 0x5c || eqb b 0x5d) (0x5c ∷ b ∷ []) (b ∷ [])

-- byte by byte
unfoldable pub escaped_text : List ℕ → List ℕ
escaped_text [] = []
escaped_text (b ∷ bs) = escaped_byte b ++ escaped_text bs
