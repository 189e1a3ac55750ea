-- The numbers that each exported function can give, in the scope's order.
use Rattle.std.specs.Prelude.{◌∷◌, ◌⊎◌, ◌≡◌}
use Rattle.lists.specs.Prelude.{ℕ, List, []}

-- n is one of these numbers
abbrev pub OneOf : List ℕ → ℕ → Type 0
OneOf [] n = ⊥
OneOf (x ∷ xs) n = (n ≡ x) ⊎ OneOf xs n

-- strict reading
abbrev pub strict_numbers : List ℕ
strict_numbers = 0 ∷ 1 ∷ 2 ∷ 3 ∷ 4 ∷ 5 ∷ 6 ∷ 7 ∷ 8 ∷ 9 ∷ 10 ∷ 11 ∷ 12 ∷ 14 ∷ []

-- lenient reading
abbrev pub lenient_numbers : List ℕ
lenient_numbers = 0 ∷ 1 ∷ 2 ∷ 9 ∷ 14 ∷ []

-- a strict reading without tables, and its explanation
abbrev pub count_numbers : List ℕ
count_numbers = 0 ∷ 1 ∷ 2 ∷ 3 ∷ 4 ∷ 5 ∷ 6 ∷ 7 ∷ 8 ∷ 9 ∷ 10 ∷ 11 ∷ 12 ∷ []

-- a lenient one
abbrev pub lenient_count_numbers : List ℕ
lenient_count_numbers = 0 ∷ 1 ∷ 2 ∷ 9 ∷ []

-- the writer
abbrev pub writer_numbers : List ℕ
writer_numbers = 0 ∷ 19 ∷ 15 ∷ 14 ∷ []

-- the edit
abbrev pub edit_numbers : List ℕ
edit_numbers = 0 ∷ 19 ∷ 16 ∷ 17 ∷ 2 ∷ 18 ∷ 1 ∷ 14 ∷ []

-- value access and Go value
abbrev pub access_numbers : List ℕ
access_numbers = 0 ∷ 19 ∷ 16 ∷ []

-- display
abbrev pub display_numbers : List ℕ
display_numbers = 0 ∷ 19 ∷ 16 ∷ 14 ∷ []

-- the display of a value that is lent by itself
abbrev pub raw_numbers : List ℕ
raw_numbers = 0 ∷ 14 ∷ []

-- whether tables fit
abbrev pub fits_numbers : List ℕ
fits_numbers = 0 ∷ 19 ∷ []

-- trimming
abbrev pub trim_numbers : List ℕ
trim_numbers = 0 ∷ 2 ∷ []

-- a token
abbrev pub token_numbers : List ℕ
token_numbers = 0 ∷ 3 ∷ 4 ∷ 5 ∷ []
