-- Places of the table: `A` to `Z` 0 to 25, `AA` to `ZZ` 26 to 701.
use Rattle.std.specs.Prelude.{◌+◌, ◌-◌, ◌*◌, ◌/◌, ◌%◌, ◌∷◌}
use Rattle.lists.specs.Prelude.{ℕ, List, [], ltb, pick}

-- the place of an identifier; 702 where it has none
abbrev pub index_place : List ℕ → ℕ
index_place [] = 702
index_place (a ∷ []) = a - 0x41
index_place (a ∷ b ∷ []) = 26 + (a - 0x41) * 26 + (b - 0x41)
index_place (a ∷ b ∷ c ∷ r) = 702

-- the identifier of a place
abbrev pub letters_at : ℕ → List ℕ
letters_at i = pick (ltb i 26) ((0x41 + i) ∷ []) ((0x41 + (i - 26) / 26) ∷ (0x41 + (i - 26) % 26) ∷ [])
