-- What the steps of the lookup promise each other.
use Rattle.std.specs.Prelude.{◌+◌, ◌-◌, ◌*◌, ◌/◌, ◌%◌, ◌∷◌}
use Rattle.lists.specs.Prelude.{ℕ, List, [], ltb, eqb, pick}
use Rattle.ff4_index.specs.declared.Entry.{Entry}

-- the parts of a cell
abbrev pub cell_entry : ℕ → Entry
cell_entry c = record { kind = c % 32; property_type = c / 32 % 8; section = c / 256 }

-- the place where the letters so far count n
unfoldable pub place_from : ℕ → List ℕ → ℕ
place_from n [] = pick (eqb n 0) 702 (n - 1)
place_from n (b ∷ bs) = pick (ltb 26 n) 702 (place_from (n * 26 + (b - 0x40)) bs)
