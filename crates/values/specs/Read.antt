-- Read values and read identifiers: what raw bytes read as.
use Rattle.std.specs.Prelude.{◌+◌, ◌&&◌, ◌∷◌, Option, Some, None}
use Rattle.lists.specs.Prelude.{ℕ, Bool, true, false, List, [], leb, ltb, eqb, length, get_or, pick}

-- each unescaped backslash is dropped and what follows it is kept; true: an escape is pending
unfoldable pub read_from : Bool → List ℕ → List ℕ
read_from escaped [] = []
read_from true (b ∷ bs) = b ∷ read_from false bs
read_from false (b ∷ bs) = pick (eqb b 0x5c) (read_from true bs) (b ∷ read_from false bs)

-- the read value of a raw one (SCOPE 75)
abbrev pub read_value : List ℕ → List ℕ
read_value s = read_from false s

-- the read identifier: the uppercase letters of the raw one (SCOPE 93)
unfoldable pub read_identifier : List ℕ → List ℕ
read_identifier [] = []
read_identifier (b ∷ bs) = pick (leb 0x41 b && leb b 0x5a) (b ∷ read_identifier bs) (read_identifier bs)

-- the next read byte at a place of raw bytes, and the place after it
unfoldable pub next_read : List ℕ → ℕ → Option (ℕ × ℕ)
next_read s at =
    pick (ltb at (length s))
    (pick (eqb (get_or s at 0) 0x5c) (pick (ltb (at + 1) (length s)) (Some (get_or s (at + 1) 0, at + 2)) None) (Some (get_or s at 0, at + 1)))
    None
