-- Raw values by their rows: a flat table with two numbers a value, its start and its end in the text.
use Rattle.std.specs.Prelude.{◌+◌, ◌-◌, ◌*◌, ◌/◌, ◌∷◌}
use Rattle.lists.specs.Prelude.{ℕ, zero, suc, List, [], ltb, length, get_or, take, drop, pick}

-- the bytes from `from` up to `to`
abbrev pub cut : List ℕ → (from to : ℕ) → List ℕ
cut text from to = take (to - from) (drop from text)

-- the raw value of row v; nothing where there is no such row
unfoldable pub value_at : (text vals : List ℕ) → ℕ → List ℕ
value_at text vals v = pick (ltb v (length vals / 2)) (cut text (get_or vals (v * 2) 0) (get_or vals (v * 2 + 1) 0)) []

-- the raw values of `count` rows from `first` on
unfoldable pub values_at : (text vals : List ℕ) (first count : ℕ) → List (List ℕ)
values_at text vals first zero = []
values_at text vals first (suc n) = value_at text vals first ∷ values_at text vals (suc first) n
